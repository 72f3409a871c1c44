-- What `splitn` has left of a text is its end.
use Rattle.std.proofs.Common.{◌≡◌, ◌∙◌, ◌+◌, ◌-◌, ◌<◌, ◌≤◌, ◌++◌, ◌∷◌, [], ap, sym, subst, ℕ, Bool, true, false, List, Bor, Option, None, Some, arith, length, append_assoc}
use Rattle.std.proofs.lemmas.List.{append-nil}
use Rattle.std.specs.Prelude.{MatchOption, ◌⊎◌}
use Rattle.std.specs.Bool.{MatchBool}
use Rattle.std.specs.Option.{unwrap_or}
use Rattle.std.specs.Fn.{ComputesKey}
use Rattle.std.specs.List.{IsFirstMatchOrLen}
use Rattle.std.specs.Iterator.{Yields, SkipsThenYields}
use Rattle.std.specs.Slice.Iter.{splitn_parts, splitn_count, split_rest, split_done, split_callee}
use Rattle.std.specs.declared.slice.SplitN.{SplitN}
use Rattle.lines.specs.Words.{EndsIn}
use denote.Param.Members.{Mut}

-- what a part takes from the front, and the separator after it, leave the end
next_end : (done : Bool) (text before part left : List ℕ) → MatchBool done (before ≡ part) ((y : ℕ) × (before ≡ part ++ (y ∷ left))) → done ≡ false → EndsIn text before → EndsIn text left
next_end true text before part left taken more end = cc
next_end false text before part left (y, is) more (front, was) =
    (front ++ part ++ (y ∷ []), was ∙ ap (λ l. front ++ l) is ∙ sym (append_assoc front part (y ∷ left)) ∙ sym (append_assoc (front ++ part) (y ∷ []) left))

-- the last part is all that was left
last_end : (done : Bool) (text before part left : List ℕ) → MatchBool done (before ≡ part) ((y : ℕ) × (before ≡ part ++ (y ∷ left))) → done ≡ true → EndsIn text before → EndsIn text part
last_end true text before part left is no_more (front, was) = (front, was ∙ ap (λ l. front ++ l) is)
last_end false text before part left taken no_more end = cc

module _ {F : Type 0} (g : Mut F (Bor ℕ × Unit {0}) Bool) where
  -- what a call of `next` gives, and leaves
  abbrev pub Takes : SplitN ℕ F → Option (Bor (List ℕ)) → SplitN ℕ F → Type 0
  Takes s r t =
      (splitn_count t ≡ splitn_count s - 1)
      × MatchOption r ((splitn_count s ≡ 0) ⊎ (split_done (splitn_parts s) ≡ true))
      (λ x. (0 < splitn_count s) × (splitn_count s ≡ 1 → split_done (splitn_parts t) ≡ true)
      × MatchBool (split_done (splitn_parts t)) (split_rest (splitn_parts s) ≡ x.now) ((y : ℕ) × (split_rest (splitn_parts s) ≡ x.now ++ (y ∷ split_rest (splitn_parts t))))
      × (split_done (splitn_parts s) ≡ false)
      × (1 < splitn_count s → (p : ℕ → Bool) → ComputesKey g p (split_callee (splitn_parts s)) → ComputesKey g p (split_callee (splitn_parts t)) × IsFirstMatchOrLen p (split_rest (splitn_parts s)) (length x.now)))

  abbrev HasEnd : List ℕ → SplitN ℕ F → Type 0
  HasEnd text s = split_done (splitn_parts s) ≡ false → EndsIn text (split_rest (splitn_parts s))

  stays : (text : List ℕ) (s : SplitN ℕ F) (xs : List (Bor (List ℕ))) (t : SplitN ℕ F) → Yields Takes s xs t → HasEnd text s → HasEnd text t × (splitn_count t ≡ splitn_count s - length xs)
  stays text s [] t e end = (subst (HasEnd text) e end, omega (arith, ap splitn_count e))
  stays text s (x ∷ xs) t (j, step, more) end =
      let after = stays text j xs t more (λ e. next_end (split_done (splitn_parts j)) text (split_rest (splitn_parts s)) x.now (split_rest (splitn_parts j)) step.1.2 e (end step.1.3)) in
      (after.0, omega (arith, step.0, after.1))

  pub nth_end : (text : List ℕ) (place : ℕ) (s : SplitN ℕ F) (r : Option (Bor (List ℕ))) (u : SplitN ℕ F) (d : Bor (List ℕ)) → split_done (splitn_parts s) ≡ false → split_rest (splitn_parts s) ≡ text → splitn_count s ≤ place + 1 → d.now ≡ [] → SkipsThenYields Takes s place r u → EndsIn text (unwrap_or r d).now
  nth_end text place s None u d more rest count empty ran = (text, sym (append-nil text) ∙ ap (λ l. text ++ l) (sym empty))
  nth_end text place s (Some x) u d more rest count empty (xs, (t, taken, step), all) =
      let left = stays text s xs t taken (λ e. ([], sym rest)) in
      last_end (split_done (splitn_parts u)) text (split_rest (splitn_parts t)) x.now (split_rest (splitn_parts u)) step.1.2 (step.1.1 (omega (arith, step.1.0, left.1, all, count))) (left.0 step.1.3)
