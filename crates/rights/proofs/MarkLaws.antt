-- Marks and the list of what is marked, one more at a time. Assumes nothing.
use Prim.Native.Nat.{ℕ, zero, suc, ◌≤◌, ◌<◌}
use mathlib.Core.Path.{◌≡◌, refl, ap, sym, ◌∙◌}
use mathlib.Core.Bool.{Bool, true, false, ◌||◌, true≢false, false≢true}
use mathlib.Core.List.{List, [], ◌∷◌, ◌++◌}
use native.Mathlib.Omega.{arith}
use native.Mathlib.Decide.{ℕ_discrete}
use lib.ListN.{length, get_or, set, replicate, length-append, length-set, length-replicate}
use lib.Seq.{get_or-set_same, get_or-set_other}
use lib.Dec.{eqb}
use borrow.Author.Tests.{eq-eqb, ne_eqb}
use Rattle.rules.specs.Goals.{member, appearing}
use Rattle.rights.specs.Reached.{ones, Marks}

-- APPEARING
pub appearing-again : (v : ℕ) (vs seen : List ℕ) → member v seen ≡ true → appearing seen (v ∷ vs) ≡ appearing seen vs
unfolding appearing
appearing-again v vs seen e = rw (e, appearing)

pub appearing-first : (v : ℕ) (vs seen : List ℕ) → member v seen ≡ false → appearing seen (v ∷ vs) ≡ appearing (seen ++ (v ∷ [])) vs
unfolding appearing
appearing-first v vs seen e = rw (e, appearing)

pub appearing-none : (seen : List ℕ) → appearing seen [] ≡ seen
unfolding appearing
appearing-none seen = refl

pub appearing-then : (seen vs ws : List ℕ) → appearing (appearing seen vs) ws ≡ appearing seen (vs ++ ws)
appearing-then seen [] ws = ap (λ x. appearing x ws) (appearing-none seen)
appearing-then seen (v ∷ vs) ws = go (member v seen) refl (appearing-then seen vs ws) (appearing-then (seen ++ (v ∷ [])) vs ws)
  where
    go : (b : Bool) → member v seen ≡ b → appearing (appearing seen vs) ws ≡ appearing seen (vs ++ ws)
        → appearing (appearing (seen ++ (v ∷ [])) vs) ws ≡ appearing (seen ++ (v ∷ [])) (vs ++ ws)
        → appearing (appearing seen (v ∷ vs)) ws ≡ appearing seen (v ∷ vs ++ ws)
    go true e h k = ap (λ x. appearing x ws) (appearing-again v vs seen e) ∙ h ∙ sym (appearing-again v (vs ++ ws) seen e)
    go false e h k = ap (λ x. appearing x ws) (appearing-first v vs seen e) ∙ k ∙ sym (appearing-first v (vs ++ ws) seen e)

-- COUNTING
ones-few : (ms : List Bool) → ones ms ≤ length ms
unfolding ones
ones-few [] = omega arith
ones-few (true ∷ ms) = omega (arith, ones-few ms)
ones-few (false ∷ ms) = omega (arith, ones-few ms)

ones-room : (ms : List Bool) (p : ℕ) → p < length ms → get_or ms p false ≡ false → ones ms < length ms
unfolding ones
ones-room [] p h e = absurd (omega arith)
ones-room (true ∷ ms) zero h e = absurd (true≢false e)
ones-room (true ∷ ms) (suc p) h e = omega (arith, ones-room ms p (omega arith) e)
ones-room (false ∷ ms) p h e = omega (arith, ones-few ms)

ones-set : (ms : List Bool) (p : ℕ) → p < length ms → get_or ms p false ≡ false → ones (set ms p true) ≡ suc (ones ms)
unfolding ones
ones-set [] p h e = absurd (omega arith)
ones-set (true ∷ ms) zero h e = absurd (true≢false e)
ones-set (false ∷ ms) zero h e = refl
ones-set (true ∷ ms) (suc p) h e = ap suc (ones-set ms p (omega arith) e)
ones-set (false ∷ ms) (suc p) h e = ones-set ms p (omega arith) e

-- MEMBERS
member-last : (q p : ℕ) (list : List ℕ) → member q (list ++ (p ∷ [])) ≡ (member q list || eqb q p)
unfolding member
member-last q p [] = either-false (eqb q p)
  where
    either-false : (b : Bool) → (b || false) ≡ b
    either-false true = refl
    either-false false = refl
member-last q p (x ∷ list) = ap (λ b. eqb q x || b) (member-last q p list) ∙ grouped (eqb q x) (member q list) (eqb q p)
  where
    grouped : (a b c : Bool) → (a || (b || c)) ≡ (a || b || c)
    grouped true b c = refl
    grouped false b c = refl

member-same : (p : ℕ) (list : List ℕ) → member p (list ++ (p ∷ [])) ≡ true
member-same p list = member-last p p list ∙ ap (λ b. member p list || b) (eq-eqb p p refl) ∙ right-true (member p list)
  where
    right-true : (b : Bool) → (b || true) ≡ true
    right-true true = refl
    right-true false = refl

member-other : (q p : ℕ) (list : List ℕ) → (q ≡ p → ⊥) → member q (list ++ (p ∷ [])) ≡ member q list
member-other q p list n = member-last q p list ∙ ap (λ b. member q list || b) (ne_eqb q p n) ∙ right-false (member q list)
  where
    right-false : (b : Bool) → (b || false) ≡ b
    right-false true = refl
    right-false false = refl

-- MARKS
zeros : (n q : ℕ) → ◌≡◌ {A = Bool} (get_or (replicate n false) q false) false
zeros zero q = refl
zeros (suc n) zero = refl
zeros (suc n) (suc q) = zeros n q

no-ones : (n : ℕ) → ones (replicate n false) ≡ 0
unfolding ones
no-ones zero = refl
no-ones (suc n) = no-ones n

pub marks-none : (n : ℕ) → n ≡ 4096 → Marks (replicate n false) []
unfolding member
marks-none n e = record { size = length-replicate {A = Bool} n false ∙ e; marked = λ q h. zeros n q; small = λ q e. absurd (false≢true e); many = no-ones n }

pub list-few : (marks : List Bool) (list : List ℕ) → Marks marks list → length list ≤ 4096
list-few marks list m = omega (arith, m.size, m.many, ones-few marks)

module _ (marks : List Bool) (list : List ℕ) (m : Marks marks list) (p : ℕ) (h : p < 4096) where
  pub marked-member : (b : Bool) → get_or marks p false ≡ b → member p list ≡ b
  marked-member b e = sym (m.marked p h) ∙ e

  module _ (e : get_or marks p false ≡ false) where
    pub marks-room : length list < 4096
    marks-room = omega (arith, m.size, m.many, ones-room marks p (omega (arith, m.size)) e)

    pub marks-more : Marks (set marks p true) (list ++ (p ∷ []))
    marks-more = record {
      size = length-set marks p true ∙ m.size;
      marked = λ q l. marked q l (ℕ_discrete q p);
      small = λ q k. small q k (ℕ_discrete q p);
      many = ones-set marks p (omega (arith, m.size)) e ∙ omega (arith, m.many, length-append list (p ∷ []));
    }
      where
        marked : (q : ℕ) → q < 4096 → Dec (q ≡ p) → get_or (set marks p true) q false ≡ member q (list ++ (p ∷ []))
        marked q l (yes z) = rw z (get_or-set_same marks p true false (omega (arith, m.size)) ∙ sym (member-same p list))
        marked q l (no z) = get_or-set_other marks p q true false z ∙ m.marked q l ∙ sym (member-other q p list z)

        small : (q : ℕ) → member q (list ++ (p ∷ [])) ≡ true → Dec (q ≡ p) → q < 4096
        small q k (yes z) = rw z h
        small q k (no z) = m.small q (sym (member-other q p list z) ∙ k)
