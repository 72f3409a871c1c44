-- Bytes laid over others: what is put keeps the length, two puts side by side are one (`put_put`), and a part `&mut t[at..e]` that
-- was lent and comes back is a put into the whole (`lent`, `lent_put`): every byte outside it is as it was.
use mathlib.Core.Path.{◌≡◌, refl, sym, ap, ◌∙◌}
use mathlib.Core.List.{List, [], ◌++◌, append_assoc, append-nil}
use Prim.Native.Nat.{ℕ, ◌+◌, ◌-◌, ◌/◌, ◌%◌, ◌^◌, ◌≤◌}
use native.Mathlib.Nat.{add_assoc}
use native.Mathlib.Omega.{arith}
use lib.ListN.{length, take, drop, length-append, length-take, length-drop, take-append-drop}
use lib.Seq.{drop-drop, take-add, take-take, take_at, drop_at, drop-append-le}
use Rattle.definition.specs.Numbers.{bytes, over, put}
use Rattle.laws.proofs.Bytes.{length_bytes, bytes_halves}

pub length_over : (bs old : List ℕ) → length bs ≤ length old → length (over bs old) ≡ length old
unfolding over
length_over bs old h = rw length-append (rw length-drop (omega arith))

pub length_put : (t : List ℕ) (at : ℕ) (bs : List ℕ) → at + length bs ≤ length t → length (put t at bs) ≡ length t
unfolding put over
length_put t at bs h = simp (length-append, length-take, length-drop) (omega arith)

-- the bytes from place at + length bs on stay
pub put_is : (t : List ℕ) (at : ℕ) (bs : List ℕ) → put t at bs ≡ (take at t ++ bs) ++ drop (at + length bs) t
unfolding put over
put_is t at bs = rw (drop-drop) (sym (append_assoc (take at t) bs (drop (at + length bs) t)))

-- laid over the front
pub put_front : (t bs : List ℕ) → put t 0 bs ≡ over bs t
unfolding put over
put_front t bs = refl

pub put_none : (t : List ℕ) (at : ℕ) → put t at [] ≡ t
put_none t at = let e : at + 0 ≡ at = omega arith in rw (put_is, e, append-nil, take-append-drop)

-- two puts side by side are one
pub put_put : (t : List ℕ) (at : ℕ) (bs cs : List ℕ) → at + length bs + length cs ≤ length t → put (put t at bs) (at + length bs) cs ≡ put t at (bs ++ cs)
put_put t at bs cs h =
    let e : length (take at t ++ bs) ≡ at + length bs = simp (length-append, length-take) (omega arith) in
    simp put_is (rw (take_at (take at t ++ bs) (drop (at + length bs) t) (at + length bs) e, ← drop-drop (length cs) (at + length bs), drop_at (take at t ++ bs) (drop (at + length bs) t) (at + length bs) e, drop-drop, length-append, ← append_assoc, add_assoc))

-- the same, where the second place is known by its own name
pub put_next : (t : List ℕ) (at to : ℕ) (bs cs : List ℕ) → to ≡ at + length bs → to + length cs ≤ length t → put (put t at bs) to cs ≡ put t at (bs ++ cs)
put_next t at to bs cs e h = ap (λ (j : ℕ). put (put t at bs) j cs) e ∙ put_put t at bs cs (omega arith)

-- a number stored by its halves
pub put_halves : (k : ℕ) (t : List ℕ) (at n : ℕ) → at + k + k ≤ length t
    → put (put t at (bytes k (n % 256 ^ k))) (at + k) (bytes k (n / 256 ^ k)) ≡ put t at (bytes (k + k) n)
put_halves k t at n h =
    let l : length (bytes k (n % 256 ^ k)) ≡ k = length_bytes k (n % 256 ^ k) in
    put_next t at (at + k) (bytes k (n % 256 ^ k)) (bytes k (n / 256 ^ k)) (omega arith) (omega (arith, length_bytes k (n / 256 ^ k)))
    ∙ ap (put t at) (bytes_halves k n)

-- the part `&mut t[at..e]` was lent and comes back as bs
pub lent : (t : List ℕ) (at e : ℕ) (bs : List ℕ) → length bs ≡ e - at → take at t ++ (bs ++ drop (e - at) (drop at t)) ≡ put t at bs
unfolding put over
lent t at e bs l = rw (← l) refl

-- the same, where the part comes back as itself with bs put at off in it
pub lent_put : (t : List ℕ) (at e : ℕ) (ys : List ℕ) (off : ℕ) (bs : List ℕ) → at ≤ e → e ≤ length t → off + length bs ≤ e - at
    → ys ≡ put (take (e - at) (drop at t)) off bs → take at t ++ (ys ++ drop (e - at) (drop at t)) ≡ put t (at + off) bs
lent_put t at e ys off bs h g b q =
    let k = e - at in
    let w = drop at t in
    let lw : off + length bs ≤ length w = rw length-drop (omega arith) in
    let lk : off + length bs ≤ length (take k w) = simp (length-take, length-drop) (omega arith) in
    let e₁ : take off (take k w) ≡ take off w = take-take off k w (omega arith) in
    let e₂ : drop (off + length bs) (take k w) ++ drop k w ≡ drop (off + length bs) w =
    sym (drop-append-le (off + length bs) (take k w) (drop k w) lk) ∙ ap (drop (off + length bs)) (take-append-drop k w) in
    let e₃ : take (at + off) t ≡ take at t ++ take off w = take-add at off t in
    let e₄ : drop (off + length bs) w ≡ drop (at + (off + length bs)) t = drop-drop (off + length bs) at t in
    rw (q, put_is, put_is, e₁, e₃, append_assoc (take off w ++ bs), e₂, e₄, ← append_assoc, ← append_assoc, add_assoc)
