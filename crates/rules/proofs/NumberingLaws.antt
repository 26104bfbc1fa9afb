-- Numbering by first appearance. First facts about lists of numbers (`member`, `appearing`, `position`, `numbered`), then about the variables of
-- terms, literals and goals: a renumbered goal is in order, a goal in order is its own renumbering, and the variables of a goal in order
-- are the numbers below `top_goal`, as many as have appeared.
use Prim.Native.Nat.{ℕ, zero, suc, ◌+◌, ◌≤◌, ◌<◌, max}
use mathlib.Core.Path.{◌≡◌, refl, sym, ◌∙◌, ap, ap₂, subst}
use mathlib.Core.Logic.{◌↔◌, ◌⊎◌, inl, inr}
use mathlib.Core.Bool.{Bool, true, false, ◌&&◌, ◌||◌, true≢false, false≢true}
use mathlib.Core.List.Memᴰ
use mathlib.Core.List.{List, [], ◌∷◌, ◌++◌, map, append_assoc, append-nil, Memᴰ}
use native.Mathlib.Omega.{arith}
use native.Mathlib.Nat.{zero-max, max-eq_left}
use native.Mathlib.Decide.{ℕ_discrete}
use lib.ListN.{length, get_or, length-append}
use lib.Dec.{eqb, leb}
use borrow.Author.Tests.{eqb-true, eq-eqb, ne_eqb, leb-true, le-leb}
use Rattle.rules.specs.Terms.{Term, var, app, Terms, nil, cons, vars_term, vars_terms, occ, occs, top, tops, rename, renames}
use Rattle.rules.specs.Syntax.{Literal, pos, neg, Goal, arguments, map_literal, map_literals, map_goal, vars_literals, vars_goal, top_literals, top_goal}
use Rattle.rules.specs.Cells.{numbered}
use Rattle.rules.specs.Goals.{member, appearing, position, renumber}
use Rattle.rules.specs.WellFormed.{InOrder}
use Rattle.rules.proofs.TermLaws.{occ-same, occ-other}

-- MEMBERS
abbrev pub In : ℕ → List ℕ → Type 0
In x xs = Memᴰ x xs

pub or_cases : (a b : Bool) → (a || b) ≡ true → (a ≡ true) ⊎ (b ≡ true)
or_cases true b e = inl refl
or_cases false b e = inr e

pub or_later_lem : (a b : Bool) → b ≡ true → (a || b) ≡ true
or_later_lem true b e = refl
or_later_lem false b e = e

and_both : (a b : Bool) → (a && b) ≡ true → (a ≡ true) × (b ≡ true)
and_both true b e = (refl, e)
and_both false b e = absurd (false≢true e)

pub member-in : (x : ℕ) (xs : List ℕ) → member x xs ≡ true → In x xs
unfolding member
member-in x [] e = absurd (false≢true e)
member-in x (y ∷ ys) e = elim (or_cases (eqb x y) (member x ys) e) [ inl h ↦ Memᴰ.head (eqb-true x y h) | inr h ↦ Memᴰ.tail (member-in x ys h) ]

pub in-member : (x : ℕ) {xs : List ℕ} → In x xs → member x xs ≡ true
unfolding member
in-member x (Memᴰ.head {x = y} {xs = ys} e) = ap (λ b. b || member x ys) (eq-eqb x y e)
in-member x (Memᴰ.tail {x = y} {xs = ys} h) = or_later_lem (eqb x y) (member x ys) (in-member x h)

-- POSITIONS
at_head : (xs : List ℕ) (x v : ℕ) → eqb v x ≡ true → position (x ∷ xs) v ≡ 0
unfolding position
at_head xs x v e = rw (e, position)

after-head : (xs : List ℕ) (x v : ℕ) → eqb v x ≡ false → position (x ∷ xs) v ≡ suc (position xs v)
unfolding position
after-head xs x v e = rw (e, position)

-- A member's place is the one in the part where it is first found.
position_below_lem : (v : ℕ) {xs : List ℕ} → In v xs → position xs v < length xs
position_below_lem v (Memᴰ.head {x = x} {xs = xs} e) = rw (at_head xs x v (eq-eqb v x e)) (omega arith)
position_below_lem v (Memᴰ.tail {x = x} {xs = xs} h) = go (eqb v x) refl (position_below_lem v h)
  where
    go : (b : Bool) → eqb v x ≡ b → position xs v < length xs → position (x ∷ xs) v < length (x ∷ xs)
    go true e k = rw (at_head xs x v e) (omega arith)
    go false e k = rw (after-head xs x v e) (omega arith)

pub position-below : {xs : List ℕ} (v : ℕ) → In v xs → position xs v < length xs
position-below v h = position_below_lem v h

position_left_lem : (ys : List ℕ) (v : ℕ) {xs : List ℕ} → In v xs → position (xs ++ ys) v ≡ position xs v
position_left_lem ys v (Memᴰ.head {x = x} {xs = xs} e) = rw (at_head xs x v (eq-eqb v x e), at_head (xs ++ ys) x v (eq-eqb v x e))
position_left_lem ys v (Memᴰ.tail {x = x} {xs = xs} h) = go (eqb v x) refl (position_left_lem ys v h)
  where
    go : (b : Bool) → eqb v x ≡ b → position (xs ++ ys) v ≡ position xs v → position (x ∷ (xs ++ ys)) v ≡ position (x ∷ xs) v
    go true e k = rw (at_head xs x v e, at_head (xs ++ ys) x v e)
    go false e k = rw (after-head xs x v e, after-head (xs ++ ys) x v e, k)

pub position-left : {xs : List ℕ} (ys : List ℕ) (v : ℕ) → In v xs → position (xs ++ ys) v ≡ position xs v
position-left ys v h = position_left_lem ys v h

pub position-right : (xs ys : List ℕ) (v : ℕ) → ¬ (In v xs) → position (xs ++ ys) v ≡ length xs + position ys v
position-right [] ys v n = omega arith
position-right (x ∷ xs) ys v n =
    let e : eqb v x ≡ false = ne_eqb v x (λ h. n (Memᴰ.head h)) in
    rw (after-head (xs ++ ys) x v e, position-right xs ys v (λ h. n (Memᴰ.tail h))) (omega arith)

pub position_first : (xs : List ℕ) (v : ℕ) → position (v ∷ xs) v ≡ 0
position_first xs v = at_head xs v v (eq-eqb v v refl)

at_position_lem : (v : ℕ) {xs : List ℕ} → In v xs → get_or xs (position xs v) 0 ≡ v
at_position_lem v (Memᴰ.head {x = x} {xs = xs} e) = rw (at_head xs x v (eq-eqb v x e)) (sym e)
at_position_lem v (Memᴰ.tail {x = x} {xs = xs} h) = go (eqb v x) refl (at_position_lem v h)
  where
    go : (b : Bool) → eqb v x ≡ b → get_or xs (position xs v) 0 ≡ v → get_or (x ∷ xs) (position (x ∷ xs) v) 0 ≡ v
    go true e k = rw (at_head xs x v e) (sym (eqb-true v x e))
    go false e k = rw (after-head xs x v e) k

pub at_position : {xs : List ℕ} (v : ℕ) → In v xs → get_or xs (position xs v) 0 ≡ v
at_position v h = at_position_lem v h

-- FIRST APPEARANCES
-- A number is seen already, and is passed over, or is put at the end.
pub data Appearing (v : ℕ) (vs seen : List ℕ) : Type 0 where
  again : In v seen → appearing seen (v ∷ vs) ≡ appearing seen vs → Appearing v vs seen
  first : ¬ (In v seen) → appearing seen (v ∷ vs) ≡ appearing (seen ++ (v ∷ [])) vs → Appearing v vs seen

pub appears : (v : ℕ) (vs seen : List ℕ) → Appearing v vs seen
unfolding appearing
appears v vs seen = go (member v seen) refl
  where
    go : (b : Bool) → member v seen ≡ b → Appearing v vs seen
    go true e = again (member-in v seen e) (rw (e, appearing))
    go false e = first (λ h. true≢false (sym (in-member v h) ∙ e)) (rw (e, appearing))

-- What was seen stays at the front.
abbrev pub Extends : List ℕ → List ℕ → Type 0
Extends xs seen = (more : List ℕ) × (xs ≡ seen ++ more)

pub appearing-extends : (seen vs : List ℕ) → Extends (appearing seen vs) seen
unfolding appearing
appearing-extends seen [] = ([], sym (append-nil seen))
appearing-extends seen (v ∷ vs) = go (appears v vs seen) (appearing-extends seen vs) (appearing-extends (seen ++ (v ∷ [])) vs)
  where
    go : Appearing v vs seen → Extends (appearing seen vs) seen → Extends (appearing (seen ++ (v ∷ [])) vs) (seen ++ (v ∷ []))
        → Extends (appearing seen (v ∷ vs)) seen
    go (again h e) r s = (r.0, e ∙ r.1)
    go (first n e) r s = (v ∷ s.0, e ∙ s.1 ∙ append_assoc seen (v ∷ []) s.0)

pub appearing-keeps : (v : ℕ) {seen : List ℕ} (vs : List ℕ) → In v seen → In v (appearing seen vs)
appearing-keeps v {seen} vs h = let r = appearing-extends seen vs in rw r.1 (Memᴰ.append_left r.0 h)

-- All of them are there, and no other.
pub appearing-finds : (v : ℕ) (seen : List ℕ) {vs : List ℕ} → In v vs → In v (appearing seen vs)
appearing-finds v seen (Memᴰ.head {x = x} {xs = vs} e) = go (appears x vs seen)
  where
    go : Appearing x vs seen → In v (appearing seen (x ∷ vs))
    go (again h r) = rw r (appearing-keeps v vs (Memᴰ.cast e h))
    go (first n r) = rw r (appearing-keeps v vs (Memᴰ.append_right seen (Memᴰ.head e)))
appearing-finds v seen (Memᴰ.tail {x = x} {xs = vs} h) = go (appears x vs seen) (λ s. appearing-finds v s h)
  where
    go : Appearing x vs seen → ((s : List ℕ) → In v (appearing s vs)) → In v (appearing seen (x ∷ vs))
    go (again k r) found = rw r (found seen)
    go (first n r) found = rw r (found (seen ++ (x ∷ [])))

pub appearing-only : (v : ℕ) (seen vs : List ℕ) → In v (appearing seen vs) → In v seen ⊎ In v vs
unfolding appearing
appearing-only v seen [] h = inl h
appearing-only v seen (x ∷ vs) h = go (appears x vs seen) (appearing-only v seen vs) (appearing-only v (seen ++ (x ∷ [])) vs)
  where
    later : In v seen ⊎ In v vs → In v seen ⊎ In v (x ∷ vs)
    later (inl k) = inl k
    later (inr k) = inr (Memᴰ.tail k)

    last : In v (seen ++ (x ∷ [])) ⊎ In v vs → In v seen ⊎ In v (x ∷ vs)
    last (inl k) = elim (Memᴰ.append_cases seen k) [ inl a ↦ inl a | inr b ↦ inr (Memᴰ.head (Memᴰ.eq_of_singleton b)) ]
    last (inr k) = inr (Memᴰ.tail k)

    go : Appearing x vs seen → (In v (appearing seen vs) → In v seen ⊎ In v vs)
        → (In v (appearing (seen ++ (x ∷ [])) vs) → In v (seen ++ (x ∷ [])) ⊎ In v vs) → In v seen ⊎ In v (x ∷ vs)
    go (again k r) f g = later (f (rw r at h))
    go (first n r) f g = last (g (rw r at h))

-- The place of a number that was seen is that among those seen; a new one comes after them.
seen-position : (v : ℕ) {seen : List ℕ} (vs : List ℕ) → In v seen → position (appearing seen vs) v < length seen
seen-position v {seen} vs h = let r = appearing-extends seen vs in rw (r.1, position-left r.0 v h) (position-below v h)

new-position : (v : ℕ) (seen vs : List ℕ) → ¬ (In v seen) → position (appearing (seen ++ (v ∷ [])) vs) v ≡ length seen
new-position v seen vs n =
    let r = appearing-extends (seen ++ (v ∷ [])) vs in
    rw (r.1, append_assoc seen (v ∷ []) r.0, position-right seen (v ∷ r.0) v n, position_first r.0 v) (omega arith)

-- NUMBERED LISTS
numbered-cons : (next v : ℕ) (vs : List ℕ) → numbered next (v ∷ vs) ≡ true → (v ≤ next) × (numbered (max next (suc v)) vs ≡ true)
unfolding numbered
numbered-cons next v vs h = let r = and_both (leb v next) (numbered (max next (suc v)) vs) h in (leb-true v next r.0, r.1)

numbered_more : (next v later : ℕ) (vs : List ℕ) → v ≤ next → max next (suc v) ≡ later → numbered later vs ≡ true → numbered next (v ∷ vs) ≡ true
unfolding numbered
numbered_more next v later vs l e h = rw (le-leb v next l, e, numbered) h

-- The places in the order of first appearance are numbered: the next number is that of those seen.
pub positions-numbered : (seen vs : List ℕ) → numbered (length seen) (map (position (appearing seen vs)) vs) ≡ true
unfolding numbered
positions-numbered seen [] = refl
positions-numbered seen (v ∷ vs) = go (appears v vs seen) (positions-numbered seen vs) (positions-numbered (seen ++ (v ∷ [])) vs)
  where
    order : List ℕ
    order = appearing (seen ++ (v ∷ [])) vs

    go : Appearing v vs seen → numbered (length seen) (map (position (appearing seen vs)) vs) ≡ true
        → numbered (length (seen ++ (v ∷ []))) (map (position order) vs) ≡ true
        → numbered (length seen) (map (position (appearing seen (v ∷ vs))) (v ∷ vs)) ≡ true
    go (again h e) r s =
        let l : position (appearing seen vs) v < length seen = seen-position v vs h in
        subst (λ xs. numbered (length seen) (map (position xs) (v ∷ vs)) ≡ true) (sym e)
        (numbered_more (length seen) (position (appearing seen vs) v) (length seen) (map (position (appearing seen vs)) vs) (omega arith) (max-eq_left l) r)
    go (first n e) r s =
        let l : position order v ≡ length seen = new-position v seen vs n in
        let m : max (length seen) (suc (position order v)) ≡ length (seen ++ (v ∷ [])) = omega (arith, length-append seen (v ∷ [])) in
        subst (λ xs. numbered (length seen) (map (position xs) (v ∷ vs)) ≡ true) (sym e)
        (numbered_more (length seen) (position order v) (length (seen ++ (v ∷ []))) (map (position order) vs) (omega arith) m s)

-- The numbers below n.
abbrev pub up_to : ℕ → List ℕ
up_to zero = []
up_to (suc n) = up_to n ++ (n ∷ [])

pub length-up_to : (n : ℕ) → length (up_to n) ≡ n
length-up_to zero = refl
length-up_to (suc n) = omega (arith, length-append (up_to n) (n ∷ []), length-up_to n)

pub in-up_to : (v n : ℕ) → v < n → In v (up_to n)
in-up_to v zero l = absurd (omega arith)
in-up_to v (suc n) l = elim (ℕ_discrete v n) [
  | yes e ↦ Memᴰ.append_right (up_to n) (Memᴰ.head e)
  | no k ↦ Memᴰ.append_left (n ∷ []) (in-up_to v n (omega arith))
]

pub up_to-below : (v n : ℕ) → In v (up_to n) → v < n
up_to-below v zero h = absurd (Memᴰ.not-nil h)
up_to-below v (suc n) h = elim (Memᴰ.append_cases (up_to n) h) [
  | inl a ↦ let l : v < n = up_to-below v n a in omega arith
  | inr b ↦ let e : v ≡ n = Memᴰ.eq_of_singleton b in omega arith
]

pub position-up_to : (v n : ℕ) → v < n → position (up_to n) v ≡ v
position-up_to v zero l = absurd (omega arith)
position-up_to v (suc n) l = elim (ℕ_discrete v n) [
  | yes e ↦
      position-right (up_to n) (n ∷ []) v (λ h. let k : v < n = up_to-below v n h in omega arith)
      ∙ ap (λ x. length (up_to n) + x) (at_head [] n v (eq-eqb v n e)) ∙ omega (arith, length-up_to n)
  | no k ↦ let b : v < n = omega arith in position-left (n ∷ []) v (in-up_to v n b) ∙ position-up_to v n b
]

-- The least number above all in the list.
abbrev pub above : List ℕ → ℕ
above [] = 0
above (v ∷ vs) = max (suc v) (above vs)

pub in-above : (v : ℕ) {vs : List ℕ} → In v vs → v < above vs
in-above v (Memᴰ.head e) = omega arith
in-above v (Memᴰ.tail h) = omega (arith, in-above v h)

-- Those that appear in a numbered list are the numbers below the least one above all.
numbered-from : (n : ℕ) (vs : List ℕ) → numbered n vs ≡ true → appearing (up_to n) vs ≡ up_to (max n (above vs))
unfolding appearing
numbered-from n [] h = let e : n ≡ max n 0 = omega arith in ap up_to e
numbered-from n (v ∷ vs) h = go (appears v vs (up_to n)) (numbered-cons n v vs h) (numbered-from n vs) (numbered-from (suc n) vs)
  where
    go : Appearing v vs (up_to n) → (v ≤ n) × (numbered (max n (suc v)) vs ≡ true)
        → (numbered n vs ≡ true → appearing (up_to n) vs ≡ up_to (max n (above vs)))
        → (numbered (suc n) vs ≡ true → appearing (up_to (suc n)) vs ≡ up_to (max (suc n) (above vs)))
        → appearing (up_to n) (v ∷ vs) ≡ up_to (max n (above (v ∷ vs)))
    go (again k e) r f g =
        let l : v < n = up_to-below v n k in
        let m : max n (above vs) ≡ max n (max (suc v) (above vs)) = omega arith in
        e ∙ f (rw (max-eq_left l) at r.1) ∙ ap up_to m
    go (first k e) r f g =
        let q : ¬ (v < n) = λ l. k (in-up_to v n l) in
        let w : v ≡ n = omega arith in
        let m : max (suc n) (above vs) ≡ max n (max (suc v) (above vs)) = omega arith in
        let s : max n (suc v) ≡ suc n = omega arith in
        e ∙ ap (λ x. appearing (up_to n ++ (x ∷ [])) vs) w ∙ g (rw s at r.1) ∙ ap up_to m

pub numbered-appearing : (vs : List ℕ) → InOrder vs → appearing [] vs ≡ up_to (above vs)
numbered-appearing vs h = numbered-from 0 vs h ∙ ap up_to (zero-max (above vs))

-- So there are as many, and each is in its own place.
pub numbered-count : (vs : List ℕ) → InOrder vs → length (appearing [] vs) ≡ above vs
numbered-count vs h = ap length (numbered-appearing vs h) ∙ length-up_to (above vs)

pub numbered-position : (vs : List ℕ) → InOrder vs → (v : ℕ) → In v vs → position (appearing [] vs) v ≡ v
numbered-position vs h v k = rw (numbered-appearing vs h) (position-up_to v (above vs) (in-above v k))

-- VARIABLES OF TERMS, LITERALS AND GOALS
-- What follows is put behind.
mutual
  var-append : (t : Term) (rest : List ℕ) → vars_term t rest ≡ vars_term t [] ++ rest
  var-append (var v) rest = refl
  var-append (app f ts) rest = vars-append ts rest

  pub vars-append : (ts : Terms) (rest : List ℕ) → vars_terms ts rest ≡ vars_terms ts [] ++ rest
  vars-append nil rest = refl
  vars-append (cons t ts) rest =
      var-append t (vars_terms ts rest) ∙ ap (λ vs. vars_term t [] ++ vs) (vars-append ts rest)
      ∙ sym (append_assoc (vars_term t []) (vars_terms ts []) rest) ∙ ap (λ vs. vs ++ rest) (sym (var-append t (vars_terms ts [])))

pub literals-append : (ls ms : List Literal) → vars_literals (ls ++ ms) ≡ vars_literals ls ++ vars_literals ms
literals-append [] ms = refl
literals-append (l ∷ ls) ms =
    vars-append (arguments l) (vars_literals (ls ++ ms)) ∙ ap (λ vs. vars_terms (arguments l) [] ++ vs) (literals-append ls ms)
    ∙ sym (append_assoc (vars_terms (arguments l) []) (vars_literals ls) (vars_literals ms))
    ∙ ap (λ vs. vs ++ vars_literals ms) (sym (vars-append (arguments l) (vars_literals ls)))

pub in-vars : (x : ℕ) (ts : Terms) (rest : List ℕ) → In x (vars_terms ts rest) ↔ (In x (vars_terms ts []) ⊎ In x rest)
in-vars x ts rest = (
  λ h. Memᴰ.append_cases (vars_terms ts []) (rw (vars-append ts rest) at h),
  λ h. rw (vars-append ts rest) (elim h [ inl a ↦ Memᴰ.append_left rest a | inr b ↦ Memᴰ.append_right (vars_terms ts []) b ]),
)

-- A variable occurs in terms exactly if it is among their variables.
pub sum-pos : (a b : ℕ) → 0 < a + b → (0 < a) ⊎ (0 < b)
sum-pos zero b h = inr (omega arith)
sum-pos (suc a) b h = inl (omega arith)

mutual
  occ-in : (x : ℕ) (t : Term) (rest : List ℕ) → 0 < occ x t → In x (vars_term t rest)
  occ-in x (var y) rest h = elim (ℕ_discrete x y) [ yes e ↦ Memᴰ.head e | no n ↦ absurd (omega (arith, occ-other x y n)) ]
  occ-in x (app f ts) rest h = occs-in x ts rest h

  pub occs-in : (x : ℕ) (ts : Terms) (rest : List ℕ) → 0 < occs x ts → In x (vars_terms ts rest)
  occs-in x nil rest h = absurd (omega arith)
  occs-in x (cons t ts) rest h = elim (sum-pos (occ x t) (occs x ts) h) [
    | inl a ↦ occ-in x t (vars_terms ts rest) a
    | inr b ↦ rw (var-append t (vars_terms ts rest)) (Memᴰ.append_right (vars_term t []) (occs-in x ts rest b))
  ]

mutual
  in-occ : (x : ℕ) (t : Term) (rest : List ℕ) → In x (vars_term t rest) → (0 < occ x t) ⊎ In x rest
  in-occ x (var y) rest h = elim (Memᴰ.cases_cons h) [ inl e ↦ inl (rw (← e, occ-same x) (omega arith)) | inr k ↦ inr k ]
  in-occ x (app f ts) rest h = in-occs x ts rest h

  pub in-occs : (x : ℕ) (ts : Terms) (rest : List ℕ) → In x (vars_terms ts rest) → (0 < occs x ts) ⊎ In x rest
  in-occs x nil rest h = inr h
  in-occs x (cons t ts) rest h = elim (in-occ x t (vars_terms ts rest) h) [
    | inl a ↦ inl (omega arith)
    | inr k ↦ elim (in-occs x ts rest k) [ inl b ↦ inl (omega arith) | inr b ↦ inr b ]
  ]

pub occs-vars : (x : ℕ) (ts : Terms) → (0 < occs x ts) ↔ In x (vars_terms ts [])
occs-vars x ts = (occs-in x ts [], λ h. elim (in-occs x ts [] h) [ inl a ↦ a | inr k ↦ absurd (Memᴰ.not-nil k) ])

-- The least number above the variables of a goal.
mutual
  top_above : (t : Term) (rest : List ℕ) → above (vars_term t rest) ≡ max (top t) (above rest)
  top_above (var v) rest = refl
  top_above (app f ts) rest = tops_above ts rest

  pub tops_above : (ts : Terms) (rest : List ℕ) → above (vars_terms ts rest) ≡ max (tops ts) (above rest)
  tops_above nil rest = sym (zero-max (above rest))
  tops_above (cons t ts) rest = omega (arith, top_above t (vars_terms ts rest), tops_above ts rest)

pub top_literals-above : (ls : List Literal) → above (vars_literals ls) ≡ top_literals ls
top_literals-above [] = refl
top_literals-above (l ∷ ls) = omega (arith, tops_above (arguments l) (vars_literals ls), top_literals-above ls)

pub top_goal-above : (g : Goal) → above (vars_goal g) ≡ top_goal g
top_goal-above g = omega (arith, tops_above g.answer_terms (vars_literals g.literals), top_literals-above g.literals)

-- RENAMING
module _ (ρ : ℕ → ℕ) where
  mutual
    var-rename : (t : Term) (rest : List ℕ) → vars_term (rename ρ t) (map ρ rest) ≡ map ρ (vars_term t rest)
    var-rename (var v) rest = refl
    var-rename (app f ts) rest = vars-renames ts rest

    pub vars-renames : (ts : Terms) (rest : List ℕ) → vars_terms (renames ρ ts) (map ρ rest) ≡ map ρ (vars_terms ts rest)
    vars-renames nil rest = refl
    vars-renames (cons t ts) rest = ap (vars_term (rename ρ t)) (vars-renames ts rest) ∙ var-rename t (vars_terms ts rest)

  pub vars_literals-renames : (ls : List Literal) → vars_literals (map_literals (renames ρ) ls) ≡ map ρ (vars_literals ls)
  vars_literals-renames [] = refl
  vars_literals-renames (pos p ts ∷ ls) = ap (vars_terms (renames ρ ts)) (vars_literals-renames ls) ∙ vars-renames ts (vars_literals ls)
  vars_literals-renames (neg p ts ∷ ls) = ap (vars_terms (renames ρ ts)) (vars_literals-renames ls) ∙ vars-renames ts (vars_literals ls)

  pub vars_goal-renames : (g : Goal) → vars_goal (map_goal (renames ρ) g) ≡ map ρ (vars_goal g)
  vars_goal-renames g = ap (vars_terms (renames ρ g.answer_terms)) (vars_literals-renames g.literals) ∙ vars-renames g.answer_terms (vars_literals g.literals)

-- A renaming that keeps the numbers of the variables changes nothing.
module _ (ρ : ℕ → ℕ) where
  mutual
    rename-same : (t : Term) → ((x : ℕ) → 0 < occ x t → ρ x ≡ x) → rename ρ t ≡ t
    rename-same (var v) h = ap var (h v (omega (arith, occ-same v)))
    rename-same (app f ts) h = ap (app f) (renames-same ts h)

    pub renames-same : (ts : Terms) → ((x : ℕ) → 0 < occs x ts → ρ x ≡ x) → renames ρ ts ≡ ts
    renames-same nil h = refl
    renames-same (cons t ts) h = ap₂ cons (rename-same t (λ x k. h x (omega arith))) (renames-same ts (λ x k. h x (omega arith)))

  literal-same : (l : Literal) → ((x : ℕ) → 0 < occs x (arguments l) → ρ x ≡ x) → map_literal (renames ρ) l ≡ l
  literal-same (pos p ts) h = ap (pos p) (renames-same ts h)
  literal-same (neg p ts) h = ap (neg p) (renames-same ts h)

  pub literals-same : (ls : List Literal) → ((x : ℕ) → In x (vars_literals ls) → ρ x ≡ x) → map_literals (renames ρ) ls ≡ ls
  literals-same [] h = refl
  literals-same (l ∷ ls) h =
      ap₂ ◌∷◌ (literal-same l (λ x k. h x (occs-in x (arguments l) (vars_literals ls) k)))
      (literals-same ls (λ x k. h x ((in-vars x (arguments l) (vars_literals ls)).1 (inr k))))

  pub goal-same : (g : Goal) → ((x : ℕ) → In x (vars_goal g) → ρ x ≡ x) → map_goal (renames ρ) g ≡ g
  goal-same g h = λ i. record {
    answer_terms = renames-same g.answer_terms (λ x k. h x (occs-in x g.answer_terms (vars_literals g.literals) k)) i;
    literals = literals-same g.literals (λ x k. h x ((in-vars x g.answer_terms (vars_literals g.literals)).1 (inr k))) i;
  }

-- RENUMBERING
-- A renumbered goal is in order, and a goal in order is its own renumbering.
pub renumber-in_order : (g : Goal) → InOrder (vars_goal (renumber g))
unfolding renumber
renumber-in_order g = let vs : List ℕ = vars_goal g in rw (vars_goal-renames (position (appearing [] vs)) g) (positions-numbered [] vs)

pub renumber-same : (g : Goal) → InOrder (vars_goal g) → renumber g ≡ g
unfolding renumber
renumber-same g h = goal-same (position (appearing [] (vars_goal g))) g (numbered-position (vars_goal g) h)

pub renumber-again : (g : Goal) → renumber (renumber g) ≡ renumber g
renumber-again g = renumber-same (renumber g) (renumber-in_order g)

-- Without a literal that has no variables the variables are the same.
pub vars-without :
    (before : List Literal) (l : Literal) (after : List Literal) → vars_terms (arguments l) [] ≡ []
    → vars_literals (before ++ (l ∷ after)) ≡ vars_literals (before ++ after)
vars-without before l after e =
    literals-append before (l ∷ after)
    ∙ ap (λ vs. vars_literals before ++ vs) (vars-append (arguments l) (vars_literals after) ∙ ap (λ vs. vs ++ vars_literals after) e)
    ∙ sym (literals-append before after)
