-- Terms written one after the other, as many as fit whole.
use Prim.Native.Nat.{ℕ, ◌+◌, ◌-◌, ◌≤◌, ◌<◌}
use mathlib.Core.Path.{◌≡◌, ap, ap₂, sym, ◌∙◌}
use mathlib.Core.List.{List, [], ◌∷◌, ◌++◌, append_assoc, append-nil}
use native.Mathlib.Omega.{arith}
use lib.ListN.{length, length-drop, take, drop, length-append, take-append-drop}
use lib.Seq.{length-take-le, take_at, drop_at, drop-drop}
use borrow.Author.Tests.{le-leb, lt-leb}
use borrow.Rule.Slice.PartMut.{put_mid}
use Rattle.rules.specs.Refusals.{accepted}
use Rattle.rules.specs.Drill.{fitting, joined, list_after}

-- As many as fit.
fits_one : (room : ℕ) (t : List ℕ) (ts : List (List ℕ)) → length t ≤ room → fitting room (t ∷ ts) ≡ t ∷ fitting (room - length t) ts
unfolding fitting
fits_one room t ts h = rw (le-leb (length t) room h, fitting)

fits-none : (room : ℕ) (t : List ℕ) (ts : List (List ℕ)) → room < length t → fitting room (t ∷ ts) ≡ []
unfolding fitting
fits-none room t ts h = rw (lt-leb (length t) room h, fitting)

-- The first `at` words of `out` hold the first `count` terms of `all`, and `left` are those after them.
pub record Writing (all : List (List ℕ)) (before out : List ℕ) (at count : ℕ) (left : List (List ℕ)) : Type 0 where
  pub inside : at ≤ length before
  pub few : count ≤ at
  pub same : length out ≡ length before
  pub untouched : drop at out ≡ drop at before
  pub words : take at out ++ joined (fitting (length before - at) left) ≡ joined (fitting (length before) all)
  pub number : count + length (fitting (length before - at) left) ≡ length (fitting (length before) all)

-- What is left when no more are written.
pub record Wrote (all : List (List ℕ)) (before out : List ℕ) (count : ℕ) : Type 0 where
  pub number : count ≡ length (fitting (length before) all)
  pub words : out ≡ list_after (accepted (fitting (length before) all)) before

-- One turn, in which the next term is given, if there is one.
module _
    (all : List (List ℕ))
    (before out : List ℕ)
    (at count : ℕ)
    (left : List (List ℕ))
    (w : Writing all before out at count left)
  where
    ended : fitting (length before - at) left ≡ [] → Wrote all before out count
    unfolding joined list_after
    ended e =
        let ws : take at out ≡ joined (fitting (length before) all) = sym (append-nil (take at out)) ∙ ap (λ l. take at out ++ joined l) (sym e) ∙ w.words in
        let l : length (joined (fitting (length before) all)) ≡ at = sym (ap length ws) ∙ length-take-le at out (omega (arith, w.inside, w.same)) in
        record {
          number = omega (arith, ap length e, w.number);
          words = sym (take-append-drop at out) ∙ ap₂ ◌++◌ ws (w.untouched ∙ ap (λ j. drop j before) (sym l));
        }

    pub writing-last : left ≡ [] → Wrote all before out count
    unfolding fitting
    writing-last e = ended (ap (fitting (length before - at)) e)

    module _ (x : List ℕ) (others : List (List ℕ)) (b : left ≡ x ∷ others) (size : ℕ) (some : 1 ≤ size) (taken : length x ≡ size) where
      pub writing-full : length out - at < size → Wrote all before out count
      writing-full f = ended (ap (fitting (length before - at)) b ∙ fits-none (length before - at) x others (omega (arith, taken, w.same)))

      module _ (f : size ≤ length out - at) where
        abbrev next : List (List ℕ)
        next = fitting (length before - (at + size)) others

        split : fitting (length before - at) left ≡ x ∷ next
        split =
            let room : length before - at - length x ≡ length before - (at + size) = omega (arith, taken) in
            ap (fitting (length before - at)) (b)
            ∙ fits_one (length before - at) x others (omega (arith, taken, w.same))
            ∙ ap (λ j. x ∷ fitting j others) room

        abbrev placed : List ℕ
        placed = put_mid at (at + size - at) out x

        placed-parts : placed ≡ (take at out ++ x) ++ drop (at + size) out
        placed-parts =
            let end : at + (at + size - at) ≡ at + size = omega arith in
            ap (λ t. take at out ++ (x ++ t)) (drop-drop (at + size - at) at out ∙ ap (λ j. drop j out) end)
            ∙ sym (append_assoc (take at out) x (drop (at + size) out))

        front : length (take at out ++ x) ≡ at + size
        front = omega (arith, length-append (take at out) x, length-take-le at out (omega (arith, w.inside, w.same)), taken)

        pub writing_more : Writing all before placed (at + size) (count + 1) others
        unfolding joined
        writing_more =
            record {
              inside = omega (arith, w.same, w.inside);
              few = omega (arith, w.few, some);
              same = omega (arith, ap length placed-parts, length-append (take at out ++ x) (drop (at + size) out), front, length-drop (at + size) out, w.same, w.inside);
              untouched =
                  ap (drop (at + size)) placed-parts
                  ∙ drop_at (take at out ++ x) (drop (at + size) out) (at + size) front
                  ∙ sym (drop-drop size at out)
                  ∙ ap (drop size) w.untouched
                  ∙ drop-drop size at before;
              words =
                  ap (◌++ joined next) (ap (take (at + size)) placed-parts ∙ take_at (take at out ++ x) (drop (at + size) out) (at + size) front)
                  ∙ append_assoc (take at out) x (joined next)
                  ∙ ap (λ l. take at out ++ joined l) (sym split)
                  ∙ w.words;
              number = omega (arith, ap length split, w.number);
            }
