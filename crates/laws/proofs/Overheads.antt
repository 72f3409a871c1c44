-- The bytes before a content: at most 4 of a count and 26 of a key, 10 to 18 before a head's prefix and 2 before a plain slot's, so that
-- mark, length, link, count and key lie within the slot where a chain starts (`start_fits`, `count_inside`).
use mathlib.Core.Path.{◌≡◌, ap}
use mathlib.Core.Bool.{Bool, true, false, cond}
use Prim.Native.Nat.{ℕ, ◌+◌, ◌≤◌}
use native.Mathlib.Omega.{arith}
use Rattle.definition.specs.declared.Settings.{Settings}
use Rattle.definition.specs.Settings.{word_bytes, total_bytes, count_bytes, link_overhead, count_len, key_len, prefix_len, head_overhead, start_overhead, bad_settings}
use Rattle.laws.proofs.Conditions.{cond_yes, cond_no, which, Which, is_yes, is_no}
use Rattle.laws.proofs.Sizes.{Sizes, sizes, prefix_most}

cond_most : (b : Bool) (m n : ℕ) → n ≤ m → cond b m n ≤ m
cond_most true m n h = omega arith
cond_most false m n h = h

pub count_most : (s : Settings) → count_len s ≤ 4
unfolding count_len
count_most s = cond_most s.counted 4 0 (omega arith)

pub key_most : (s : Settings) → key_len s ≤ 26
unfolding key_len
key_most s = cond_most s.keyed 26 0 (omega arith)

-- a head's overhead has at least its mark and link, and at most its total besides
pub overhead_bounds : (s : Settings) → (link_overhead ≤ head_overhead s) × (head_overhead s ≤ link_overhead + total_bytes)
unfolding head_overhead
overhead_bounds s = (omega arith, omega arith)

-- on a fixed table the size word alone stands before the prefix, on a multipart one the whole head does
pub start_fixed : (s : Settings) → s.multipart ≡ false → start_overhead s ≡ word_bytes
unfolding start_overhead
start_fixed s m = cond_no s.multipart (head_overhead s) word_bytes m

pub start_multi : (s : Settings) → s.multipart ≡ true → start_overhead s ≡ head_overhead s
unfolding start_overhead
start_multi s m = cond_yes s.multipart (head_overhead s) word_bytes m

start_bounds : (s : Settings) → (word_bytes ≤ start_overhead s) × (start_overhead s ≤ link_overhead + total_bytes)
start_bounds s = go (which s.multipart)
  where
    go : Which s.multipart → (word_bytes ≤ start_overhead s) × (start_overhead s ≤ link_overhead + total_bytes)
    go (is_yes m) = (omega (arith, start_multi s m, overhead_bounds s), omega (arith, start_multi s m, overhead_bounds s))
    go (is_no m) = (omega (arith, start_fixed s m), omega (arith, start_fixed s m))

pub start_least : (s : Settings) → word_bytes ≤ start_overhead s
start_least s = (start_bounds s).0

pub start_most : (s : Settings) → start_overhead s ≤ 18
start_most s = (start_bounds s).1

-- the prefix lies within the slot where a chain starts, and so does a count
start_room : (s : Settings) → Sizes s → start_overhead s + prefix_len s ≤ s.size
start_room s z = go (which s.multipart)
  where
    go : Which s.multipart → start_overhead s + prefix_len s ≤ s.size
    go (is_yes m) = omega (arith, start_multi s m, z.roomy m)
    go (is_no m) = omega (arith, start_fixed s m, prefix_most s, z.least)

pub start_fits : (s : Settings) → bad_settings s ≡ false → start_overhead s + prefix_len s ≤ s.size
start_fits s e = start_room s (sizes s e)

pub counted_prefix : (s : Settings) → s.counted ≡ true → prefix_len s ≡ count_bytes + key_len s
unfolding prefix_len count_len
counted_prefix s d = ap (λ (n : ℕ). n + key_len s) (cond_yes {X = ℕ} s.counted count_bytes 0 d)

pub count_inside : (s : Settings) → Sizes s → s.counted ≡ true → start_overhead s + count_bytes ≤ s.size
count_inside s z d = omega (arith, start_room s z, counted_prefix s d)
