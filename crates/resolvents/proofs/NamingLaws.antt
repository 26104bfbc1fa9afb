-- Variables named one after another: the order of first appearance over one list and then another, and what naming one more keeps.
use Prim.Native.Nat.{ℕ, suc, ◌+◌, ◌≤◌, ◌<◌}
use mathlib.Core.Path.{◌≡◌, refl, sym, ◌∙◌, ap}
use mathlib.Core.Logic.{◌≢◌, ◌⊎◌, inl, inr, ⊎_elim}
use mathlib.Core.Bool.{Bool, true, false, cond, true≢false}
use mathlib.Core.List.Memᴰ
use mathlib.Core.List.{List, [], ◌∷◌, ◌++◌}
use native.Mathlib.Decide.{ℕ_discrete}
use native.Mathlib.Omega.{arith}
use native.Mathlib.Numerals.{add-one}
use lib.ListN.{length, get_or, take, set, replicate, length-append, length-set, length-replicate, get_or-replicate}
use Rattle.std.specs.Prelude.{Option, Some, None, is_none}
use Rattle.std.proofs.lemmas.List.{get_or_push, take_at}
use Rattle.std.proofs.lemmas.List.Folds.{sum_by-replicate}
use Rattle.std.proofs.lemmas.List.Sums.{sum_by-set}
use Rattle.std.proofs.lemmas.Option.{none-some}
use lib.Seq.{length-take-le, take-suc, take-suc-set, take-append_seam, get_or-take, get_or-set_same, get_or-set_other}
use Rattle.rules.specs.Goals.{member, appearing, position}
use Rattle.rules.proofs.NumberingLaws.{In, member-in, in-member, position-below, position-left, position-right, position_first, at_position}
use Rattle.resolvents.specs.Naming.{name_in, unnamed, Named}

-- One list after another.
pub appearing-append : (seen vs ws : List ℕ) → appearing seen (vs ++ ws) ≡ appearing (appearing seen vs) ws
unfolding appearing
appearing-append seen [] ws = refl
appearing-append seen (v ∷ vs) ws = go (member v seen) refl (appearing-append seen vs ws) (appearing-append (seen ++ (v ∷ [])) vs ws)
  where
    go : (b : Bool) → member v seen ≡ b → appearing seen (vs ++ ws) ≡ appearing (appearing seen vs) ws
        → appearing (seen ++ (v ∷ [])) (vs ++ ws) ≡ appearing (appearing (seen ++ (v ∷ [])) vs) ws
        → appearing seen (v ∷ (vs ++ ws)) ≡ appearing (appearing seen (v ∷ vs)) ws
    go true e r s = rw (e, appearing) r
    go false e r s = rw (e, appearing) s

-- A variable is among others or not.
member-not : (v : ℕ) (xs : List ℕ) → ¬ (In v xs) → member v xs ≡ false
member-not v xs n = go (member v xs) refl
  where
    go : (b : Bool) → member v xs ≡ b → member v xs ≡ false
    go true e = absurd (n (member-in v xs e))
    go false e = e

in-or-not : (v : ℕ) (xs : List ℕ) → (In v xs) ⊎ (¬ (In v xs))
in-or-not v xs = go (member v xs) refl
  where
    go : (b : Bool) → member v xs ≡ b → (In v xs) ⊎ (¬ (In v xs))
    go true e = inl (member-in v xs e)
    go false e = inr (λ h. true≢false (sym (in-member v h) ∙ e))

-- One more variable appears.
pub appears-old : (xs : List ℕ) (v : ℕ) → In v xs → appearing xs (v ∷ []) ≡ xs
unfolding appearing
appears-old xs v h = rw (in-member v h, appearing)

pub appears-new : (xs : List ℕ) (v : ℕ) → ¬ (In v xs) → appearing xs (v ∷ []) ≡ xs ++ (v ∷ [])
unfolding appearing
appears-new xs v n = rw (member-not v xs n, appearing)

pub position-last : (xs : List ℕ) (v : ℕ) → ¬ (In v xs) → position (xs ++ (v ∷ [])) v ≡ length xs
position-last xs v n = position-right xs (v ∷ []) v n ∙ omega (arith, position_first [] v)

-- The number of a variable that is named, and of one that is not.
name_in_lem : (xs : List ℕ) (v : ℕ) → In v xs → name_in xs v ≡ Some (position xs v)
unfolding name_in
name_in_lem xs v h = rw (in-member v h, name_in)

name-not : (xs : List ℕ) (v : ℕ) → ¬ (In v xs) → name_in xs v ≡ None
unfolding name_in
name-not xs v n = rw (member-not v xs n, name_in)

-- One more at the end: it has the next number, and the others keep theirs.
name-last : (xs : List ℕ) (v : ℕ) → ¬ (In v xs) → name_in (xs ++ (v ∷ [])) v ≡ Some (length xs)
name-last xs v n = name_in_lem (xs ++ (v ∷ [])) v (Memᴰ.append_right xs (Memᴰ.head refl)) ∙ ap Some (position-last xs v n)

name-other : (xs : List ℕ) (v u : ℕ) → u ≢ v → name_in (xs ++ (v ∷ [])) u ≡ name_in xs u
name-other xs v u q = ⊎_elim
    (λ h. name_in_lem (xs ++ (v ∷ [])) u (Memᴰ.append_left (v ∷ []) h) ∙ ap Some (position-left (v ∷ []) u h) ∙ sym (name_in_lem xs u h))
    (λ n. name-not (xs ++ (v ∷ [])) u (λ h. ⊎_elim n (λ k. q (Memᴰ.eq_of_singleton k)) (Memᴰ.append_cases xs h)) ∙ sym (name-not xs u n))
    (in-or-not u xs)

-- 1 for an entry with no number. At first each entry has none, and one fewer after one is given a number.
abbrev free : Option ℕ → ℕ
free o = cond (is_none o) 1 0

all-free : (n : ℕ) → unnamed (replicate n None) ≡ n
all-free n = omega (arith, sum_by-replicate free n None)

free-set : (v k : ℕ) (names : List (Option ℕ)) → v < length names → get_or names v None ≡ None → suc (unnamed (set names v (Some k))) ≡ unnamed names
free-set v k names l h = omega (arith, sum_by-set free names v (Some k) None l, ap free h)

-- None is named.
pub named_none : (n : ℕ) (order : List ℕ) → n ≤ 32768 → n ≤ length order → Named (replicate n None) order 0
named_none n order h l = record {
  narrow = rw length-replicate h;
  room = rw length-replicate l;
  counted = omega (arith, all-free n, length-replicate {A = Option ℕ} n None);
  listed = λ i k. absurd (omega arith);
  given = λ v k. get_or-replicate n v None None (omega (arith, length-replicate {A = Option ℕ} n None)) ∙ sym (name-not [] v Memᴰ.not-nil);
  numbered = λ i k. absurd (omega arith);
}

module _ {names : List (Option ℕ)} {order : List ℕ} {m : ℕ} (w : Named names order m) where
  named-fits : m ≤ length order
  named-fits = omega (arith, w.counted, w.room)

  -- As many variables are named as the number says.
  pub named-many : length (take m order) ≡ m
  named-many = length-take-le m order named-fits

  module _ {v : ℕ} (l : v < length names) where
    -- A variable with a number is named, and the number is its position.
    pub is-named : {k : ℕ} → get_or names v None ≡ Some k → In v (take m order)
    is-named {k} e = ⊎_elim (λ h. h) (λ n. absurd (none-some k (sym (w.given v l ∙ name-not (take m order) v n) ∙ e))) (in-or-not v (take m order))

    given-in : In v (take m order) → get_or names v None ≡ Some (position (take m order) v)
    given-in h = w.given v l ∙ name_in_lem (take m order) v h

    pub number_of : {k : ℕ} → get_or names v None ≡ Some k → k ≡ position (take m order) v
    number_of {k} e = cc (given-in (is-named e))

    pub number_small : {k : ℕ} → get_or names v None ≡ Some k → k < m
    number_small e = omega (arith, number_of e, position-below v (is-named e), named-many)

    pub not_named : get_or names v None ≡ None → ¬ (In v (take m order))
    not_named e h = none-some _ (sym e ∙ given-in h)

    -- One more.
    module _ (e : get_or names v None ≡ None) where
      pub next-inside : m < length names
      next-inside = omega (arith, w.counted, free-set v 0 names l e)

      pub order-more : take (m + 1) (set order m v) ≡ take m order ++ (v ∷ [])
      order-more = rw add-one (take-suc-set order m v (omega (arith, next-inside, w.room)))

      -- The variables before it are others.
      others : (i : ℕ) → i < m → get_or order i 0 ≢ v
      others i k y = cc (w.numbered i k)

      pub named_more : Named (set names v (Some m)) (set order m v) (m + 1)
      named_more = record {
        narrow = rw length-set w.narrow;
        room = simp length-set w.room;
        counted = omega (arith, w.counted, free-set v m names l e, length-set names v (Some m));
        listed = λ i k. rw length-set (elim (ℕ_discrete i m) [
          | yes z ↦ omega (arith, l, ap (λ j. get_or (set order m v) j 0) z, get_or-set_same order m v 0 (omega (arith, next-inside, w.room)))
          | no z ↦ omega (arith, get_or-set_other order m i v 0 z, w.listed i (omega arith))
        ]);
        given = λ u k. rw order-more (elim (ℕ_discrete u v) [
          | yes z ↦ ap (λ x. get_or (set names v (Some m)) x None) z ∙ get_or-set_same names v (Some m) None l ∙ sym (ap (name_in (take m order ++ (v ∷ []))) z ∙ name-last (take m order) v (not_named e) ∙ ap Some named-many)
          | no z ↦ get_or-set_other names v u (Some m) None z ∙ w.given u (rw length-set at k) ∙ sym (name-other (take m order) v u z)
        ]);
        numbered = λ i k. elim (ℕ_discrete i m) [
          | yes z ↦ rw z (rw (get_or-set_same order m v 0 (omega (arith, next-inside, w.room))) (get_or-set_same names v (Some m) None l))
          | no z ↦ rw (get_or-set_other order m i v 0 z) (get_or-set_other names v (get_or order i 0) (Some m) None (others i (omega arith)) ∙ w.numbered i (omega arith))
        ];
      }

-- The last number is taken back.
module _ {names : List (Option ℕ)} {order : List ℕ} (i : ℕ) (w : Named names order (suc i)) where
  abbrev last : ℕ
  last = get_or order i 0

  last-inside : last < length names
  last-inside = w.listed i (omega arith)

  last-number : get_or names last None ≡ Some i
  last-number = w.numbered i (omega arith)

  fits : suc i ≤ length order
  fits = omega (arith, w.counted, w.room)

  last-other : (j : ℕ) → j < i → get_or order j 0 ≢ last
  last-other j l e =
      let same : j ≡ i = cc (w.numbered j (omega arith), last-number) in
      omega arith

  ends : take (suc i) order ≡ take i order ++ (last ∷ [])
  ends = take-suc order i 0 fits

  last-away : ¬ (In last (take i order))
  last-away h =
      let p : position (take i order) last < i = omega (arith, position-below last h, length-take-le i order (omega (arith, fits))) in
      last-other (position (take i order) last) p (sym (get_or-take i order (position (take i order) last) 0 p) ∙ at_position last h)

  named-last : Named (set names last None) order i
  named-last = record {
    narrow = rw length-set w.narrow;
    room = rw length-set w.room;
    counted = omega (arith, w.counted, sum_by-set free names last None None last-inside, ap free last-number, length-set names last None);
    listed = λ j l. rw length-set (w.listed j (omega arith));
    given = λ u k. elim (ℕ_discrete u last) [
      | yes z ↦ ap (λ x. get_or (set names last None) x None) z ∙ get_or-set_same names last None None last-inside ∙ sym (ap (name_in (take i order)) z ∙ name-not (take i order) last last-away)
      | no z ↦ get_or-set_other names last u None None z ∙ w.given u (rw length-set at k) ∙ ap (λ xs. name_in xs u) ends ∙ name-other (take i order) last u z
    ];
    numbered = λ j l. get_or-set_other names last (get_or order j 0) None None (last-other j l) ∙ w.numbered j (omega arith);
  }

-- Without the last: xs are the variables before it.
pub named-popped : {names : List (Option ℕ)} {order : List ℕ} (xs : List ℕ) (y : ℕ) → Named names order (length (xs ++ (y ∷ []))) → xs ++ (y ∷ []) ≡ take (length (xs ++ (y ∷ []))) order
    → Named (set names y None) order (length xs) × (xs ≡ take (length xs) order)
named-popped {names} {order} xs y w h =
    let e : length (xs ++ (y ∷ [])) ≡ suc (length xs) = omega (arith, length-append xs (y ∷ [])) in
    let w' : Named names order (suc (length xs)) = rw e at w in
    let l : length xs < length order = omega (arith, w'.counted, w'.room) in
    let split : xs ++ (y ∷ []) ≡ take (length xs) order ++ (get_or order (length xs) 0 ∷ []) = h ∙ ap (λ n. take n order) e ∙ take-suc order (length xs) 0 l in
    let front : xs ≡ take (length xs) order = sym (take-append_seam xs (y ∷ [])) ∙ ap (take (length xs)) split ∙ take_at (take (length xs) order) (get_or order (length xs) 0 ∷ []) (length xs) (length-take-le (length xs) order (omega arith)) in
    let last : y ≡ get_or order (length xs) 0 = sym (get_or_push xs y 0 (length xs) refl) ∙ ap (λ l. get_or l (length xs) 0) split ∙ get_or_push (take (length xs) order) (get_or order (length xs) 0) 0 (length xs) (length-take-le (length xs) order (omega arith)) in
    (rw last (named-last (length xs) w'), front)
