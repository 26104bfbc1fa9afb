-- Binding one more variable adds its elimination. Assumes nothing.
use mathlib.Core.Path.{◌≡◌, refl, sym, ◌∙◌, ap, ap₂}
use mathlib.Core.Logic.{◌≢◌}
use mathlib.Core.Bool.{true, false, cond}
use mathlib.Core.List.{List, [], ◌∷◌, ◌++◌}
use Prim.Native.Nat.{ℕ, suc, ◌+◌, ◌-◌, ◌≤◌, ◌<◌}
use native.Mathlib.Decide.{ℕ_discrete}
use native.Mathlib.Omega.{arith}
use native.Mathlib.Numerals.{add-one}
use lib.ListN.{length, get_or, take, set, length-set}
use lib.Seq.{take-suc-set, get_or-set_same, get_or-set_other}
use Rattle.rules.specs.Terms.{Term, var, occ, sub}
use Rattle.rules.specs.Unification.{Substitution, done, bind, apply}
use Rattle.rules.proofs.TermLaws.{join, ite-yes, ite-no, sub_same, sub-other, sub-free, occ-same, apply-join}
use Rattle.matching.specs.Cells.{term_at}
use Rattle.std.specs.Prelude.{Option, Some, None, unwrap_or, is_none}
use Rattle.std.proofs.lemmas.List.Sums.{sum_by-cons, sum_by-set, get_or-le-sum_by}
use Rattle.matching.specs.Bindings.{Places, elims_after, elims, value, later, unbound, Triangular, Free, Final, State, Checking, Occurs, NoBindings, Trailed, Ready}
use Rattle.matching.specs.Outcomes.{eliminated, UnifiesFrom}
use Rattle.matching.specs.declared.unify.Outcome.TheVariants.{Unified, Failed}
use Rattle.matching.proofs.SeenLaws.{open-var}
use Rattle.matching.proofs.TrailLaws.{absent, later-here, later-there, later-none, later-in, later-out, later-le}

-- What one entry adds to the number of those that are free.
abbrev free_one : Option ℕ → ℕ
free_one b = cond (is_none b) 1 0

free-here : (v : ℕ) (bs : Places) → v < length bs → get_or bs v None ≡ None → 0 < unbound bs
free-here v bs l h = omega (arith, get_or-le-sum_by free_one bs v None l, ap free_one h)

free-set : (v p : ℕ) (bs : Places) → v < length bs → get_or bs v None ≡ None → suc (unbound (set bs v (Some p))) ≡ unbound bs
free-set v p bs l h = omega (arith, sum_by-set free_one bs v (Some p) None l, ap free_one h)

-- the eliminations of variables whose entries stay
module _ (ar cells : List ℕ) (bs : Places) (v p : ℕ) where
  elims-kept : (before : Substitution) (xs : List ℕ) → later v xs ≡ 0 → elims_after ar cells (set bs v (Some p)) before xs ≡ elims_after ar cells bs before xs
  unfolding elims_after
  elims-kept before [] h = refl
  elims-kept before (x ∷ xs) h =
      let a = absent v x xs h in
      ap (λ q. elims_after ar cells (set bs v (Some p)) (join before (bind x (apply before (term_at ar cells (unwrap_or q 0))) done)) xs) (get_or-set_other bs v x (Some p) None (λ e. a.0 (sym e)))
      ∙ elims-kept (join before (bind x (apply before (term_at ar cells (unwrap_or (get_or bs x None) 0))) done)) xs a.1

elims-snoc : (ar cells : List ℕ) (bs : Places) (before : Substitution) (xs : List ℕ) (y : ℕ) → elims_after ar cells bs before (xs ++ (y ∷ [])) ≡ join (elims_after ar cells bs before xs) (bind y (apply (elims_after ar cells bs before xs) (term_at ar cells (unwrap_or (get_or bs y None) 0))) done)
unfolding elims_after
elims-snoc ar cells bs before [] y = refl
elims-snoc ar cells bs before (x ∷ xs) y = elims-snoc ar cells bs (join before (bind x (apply before (term_at ar cells (unwrap_or (get_or bs x None) 0))) done)) xs y

-- there is room for a free variable in the trail
pub free-room : {ar cells : List ℕ} {bs : Places} {trail : List ℕ} {n : ℕ} → Triangular ar cells bs trail n → {v : ℕ} → Free bs v → n < length trail
free-room {bs = bs} g {v} f = omega (arith, g.counted, g.room, free-here v bs f.inside f.open')

-- the free variable v is bound to the term at p, in which it does not stand
module _ {ar cells : List ℕ} {bs : Places} {trail : List ℕ} {n : ℕ} (g : Triangular ar cells bs trail n) {v p : ℕ} (u : Free bs v) (f : Final cells bs p) (away : occ v (value ar cells bs trail n p) ≡ 0) where
  bind-room : n < length trail
  bind-room = free-room g u

  tr : take (n + 1) (set trail n v) ≡ take n trail ++ (v ∷ [])
  tr = rw add-one (take-suc-set trail n v bind-room)

  v-absent : later v (take n trail) ≡ 0
  v-absent = g.untaken v u.inside u.open'

  entry : (w : ℕ) → w ≡ v → get_or (set bs v (Some p)) w None ≡ Some p
  entry w e = ap (λ i. get_or (set bs v (Some p)) i None) e ∙ get_or-set_same bs v (Some p) None u.inside

  others : (w : ℕ) → w ≢ v → get_or (set bs v (Some p)) w None ≡ get_or bs w None
  others w h = get_or-set_other bs v w (Some p) None h

  -- v is not free, and its place is p
  taken_now : {A : Type 0} (w : ℕ) → w ≡ v → get_or (set bs v (Some p)) w None ≡ None → A
  taken_now w e q = let z = entry w e in cc

  place_now : (w r : ℕ) → w ≡ v → get_or (set bs v (Some p)) w None ≡ Some r → r ≡ p
  place_now w r e q = let z = entry w e in cc

  bind-elims : elims ar cells (set bs v (Some p)) (set trail n v) (n + 1) ≡ join (elims ar cells bs trail n) (bind v (value ar cells bs trail n p) done)
  bind-elims =
      ap (elims_after ar cells (set bs v (Some p)) done) tr
      ∙ elims-snoc ar cells (set bs v (Some p)) done (take n trail) v
      ∙ ap₂ (λ es q. join es (bind v (apply es (term_at ar cells (unwrap_or q 0))) done)) (elims-kept ar cells bs v p done (take n trail) v-absent) (entry v refl)

  after : (t : Term) → apply (elims ar cells (set bs v (Some p)) (set trail n v) (n + 1)) t ≡ sub v (value ar cells bs trail n p) (apply (elims ar cells bs trail n) t)
  after t = ap (λ es. apply es t) bind-elims ∙ apply-join (elims ar cells bs trail n) (bind v (value ar cells bs trail n p) done) t

  old : {w : ℕ} → w < length (set bs v (Some p)) → w < length bs
  old h = omega (arith, h, length-set bs v (Some p))

  listed' : (i : ℕ) → i < n + 1 → get_or (set trail n v) i 0 < length (set bs v (Some p))
  listed' i h = rw (length-set bs v (Some p)) (cases (ℕ_discrete i n))
    where
      cases : Dec (i ≡ n) → get_or (set trail n v) i 0 < length bs
      cases (yes e) = rw (e, get_or-set_same trail n v 0 bind-room) u.inside
      cases (no q) = rw (get_or-set_other trail n i v 0 q) (g.listed i (omega arith))

  within' : (w r : ℕ) → get_or (set bs v (Some p)) w None ≡ Some r → r < length cells
  within' w r q = elim (ℕ_discrete w v) [ yes e ↦ omega (arith, place_now w r e q, f.inside) | no h ↦ g.within w r (sym (others w h) ∙ q) ]

  untaken' : (w : ℕ) → w < length (set bs v (Some p)) → get_or (set bs v (Some p)) w None ≡ None → later w (take (n + 1) (set trail n v)) ≡ 0
  untaken' w l q = rw tr (cases (ℕ_discrete w v))
    where
      cases : Dec (w ≡ v) → later w (take n trail ++ (v ∷ [])) ≡ 0
      cases (yes e) = taken_now w e q
      cases (no h) = later-out w v (take n trail) (g.untaken w (old l) (sym (others w h) ∙ q)) ∙ later-there w v [] h ∙ later-none w

  -- one further from the end, and the new variable last
  moved : (w r : ℕ) → w ≢ v → get_or (set bs v (Some p)) w None ≡ Some r → later w (take (n + 1) (set trail n v)) ≡ later w (take n trail) + 1
  moved w r h q = rw tr (later-in w v (take n trail) (g.taken w r (sym (others w h) ∙ q)))

  last : (w : ℕ) → w ≡ v → later w (take (n + 1) (set trail n v)) ≡ 1
  last w e = rw (tr, e) (later-out v v (take n trail) v-absent ∙ later-here v v [] refl)

  taken' : (w r : ℕ) → get_or (set bs v (Some p)) w None ≡ Some r → 0 < later w (take (n + 1) (set trail n v))
  taken' w r q = elim (ℕ_discrete w v) [ yes e ↦ omega (arith, last w e) | no h ↦ omega (arith, moved w r h q) ]

  free' : (w : ℕ) → w < length (set bs v (Some p)) → get_or (set bs v (Some p)) w None ≡ None → apply (elims ar cells (set bs v (Some p)) (set trail n v) (n + 1)) (var w) ≡ var w
  free' w l q = after (var w) ∙ cases (ℕ_discrete w v)
    where
      cases : Dec (w ≡ v) → sub v (value ar cells bs trail n p) (apply (elims ar cells bs trail n) (var w)) ≡ var w
      cases (yes e) = taken_now w e q
      cases (no h) = ap (sub v (value ar cells bs trail n p)) (g.free w (old l) (sym (others w h) ∙ q)) ∙ sub-other v w _ (λ e. h (sym e))

  held' : (w r : ℕ) → get_or (set bs v (Some p)) w None ≡ Some r → apply (elims ar cells (set bs v (Some p)) (set trail n v) (n + 1)) (var w) ≡ apply (elims ar cells (set bs v (Some p)) (set trail n v) (n + 1)) (term_at ar cells r)
  held' w r q = after (var w) ∙ cases (ℕ_discrete w v) ∙ sym (after (term_at ar cells r))
    where
      S : Term → Term
      S t = sub v (value ar cells bs trail n p) (apply (elims ar cells bs trail n) t)

      cases : Dec (w ≡ v) → S (var w) ≡ S (term_at ar cells r)
      cases (yes e) =
          ap (λ i. S (var i)) e
          ∙ ap (sub v (value ar cells bs trail n p)) (g.free v u.inside u.open')
          ∙ sub_same v (value ar cells bs trail n p)
          ∙ sym (sub-free v (value ar cells bs trail n p) (value ar cells bs trail n p) away)
          ∙ ap (λ i. S (term_at ar cells i)) (sym (place_now w r e q))
      cases (no h) = ap (sub v (value ar cells bs trail n p)) (g.held w r (sym (others w h) ∙ q))

  -- a variable at p is free, and is not v
  first : 32768 ≤ get_or cells p 0 → later (get_or cells p 0 - 32768) (take (n + 1) (set trail n v)) ≡ 0
  first k = rw tr (later-out x v (take n trail) (g.untaken x (g.named p f.inside k) (f.open' k)) ∙ later-there x v [] differ ∙ later-none x)
    where
      x : ℕ
      x = get_or cells p 0 - 32768

      differ : x ≢ v
      differ e = omega (arith, away, ap (occ v) (open-var g f k), ap (λ i. occ v (var i)) e, occ-same v)

  forward' : (w r : ℕ) → get_or (set bs v (Some p)) w None ≡ Some r → 32768 ≤ get_or cells r 0 → later (get_or cells r 0 - 32768) (take (n + 1) (set trail n v)) < later w (take (n + 1) (set trail n v))
  forward' w r q k = cases (ℕ_discrete w v)
    where
      cases : Dec (w ≡ v) → later (get_or cells r 0 - 32768) (take (n + 1) (set trail n v)) < later w (take (n + 1) (set trail n v))
      cases (yes e) =
          let z = place_now w r e q in
          let k' : 32768 ≤ get_or cells p 0 = rw z at k in
          rw z (omega (arith, first k', last w e))
      cases (no h) =
          let x = get_or cells r 0 - 32768 in
          omega (arith, moved w r h q, g.forward w r (sym (others w h) ∙ q) k, later-le x v (take n trail), ap (later x) tr)

  bind-triangular : Triangular ar cells (set bs v (Some p)) (set trail n v) (n + 1)
  bind-triangular = record {
    formed = g.formed;
    named = λ q l h. rw length-set (g.named q l h);
    narrow = rw length-set g.narrow;
    room = rw (length-set bs v (Some p), length-set trail n v) g.room;
    counted = omega (arith, g.counted, length-set bs v (Some p), free-set v p bs u.inside u.open');
    listed = listed';
    within = within';
    untaken = untaken';
    taken = taken';
    free = free';
    held = held';
    forward = forward';
  }

-- the equation between a free variable v and the term at p, after the occurs check
module _ {ar cells : List ℕ} {bs : Places} {trail stamps : List ℕ} {n v p : ℕ} (c : Checking ar cells bs trail n v stamps) (u : Free bs v) (f : Final cells bs p) where
  pub eliminate-fails : (rest : ℕ) → Occurs (occ v (value ar cells bs trail n p)) true → UnifiesFrom ar cells bs trail n (eliminated v (value ar cells bs trail n p)) (suc rest) bs trail stamps n (Failed rest)
  unfolding eliminated
  eliminate-fails rest o = record { state = c.state; tells = (1, ite-no (ℕ_discrete (occ v (value ar cells bs trail n p)) 0) _ _ (λ e. omega (arith, o.if-so refl)), omega arith) }

  bound' : (w : ℕ) → (get_or stamps w 0 ≡ 0 → ⊥) → get_or (set bs v (Some p)) w None ≡ None → ⊥
  bound' w h z = elim (ℕ_discrete w v) [
    | yes e ↦ c.state.bound w h (rw e u.open')
    | no q ↦ c.state.bound w h (sym (get_or-set_other bs v w (Some p) None q) ∙ z)
  ]

  pub eliminate-binds : (rest : ℕ) → Occurs (occ v (value ar cells bs trail n p)) false → UnifiesFrom ar cells bs trail n (eliminated v (value ar cells bs trail n p)) (suc rest) (set bs v (Some p)) (set trail n v) stamps (n + 1) (Unified rest)
  unfolding eliminated
  eliminate-binds rest o =
      let away : occ v (value ar cells bs trail n p) ≡ 0 = o.if-not refl in
      record {
        state = record { triangular = bind-triangular c.state.triangular u f away; wide = rw length-set c.state.wide; low = c.state.low; bound = bound' };
        tells = (1, bind v (value ar cells bs trail n p) done, ite-yes (ℕ_discrete (occ v (value ar cells bs trail n p)) 0) _ _ away, bind-elims c.state.triangular u f away, omega arith);
      }

-- no variable is bound
all-free : (bs : Places) → ((v : ℕ) → get_or bs v None ≡ None) → unbound bs ≡ length bs
all-free [] h = refl
all-free (b ∷ bs) h = omega (arith, sum_by-cons free_one b bs, ap free_one (h 0), all-free bs (λ v. h (suc v)))

not-bound : {A : Type 0} {bs : Places} {stamps : List ℕ} → NoBindings bs stamps → (v r : ℕ) → get_or bs v None ≡ Some r → A
not-bound b v r q = let z = b.free v in cc

no-elims : (ar cells : List ℕ) (bs : Places) (trail : List ℕ) → elims ar cells bs trail 0 ≡ done
unfolding elims_after
no-elims ar cells bs trail = refl

-- before the first equation
module _ {ar cells : List ℕ} {bs : Places} {trail stamps : List ℕ} (r : Ready ar cells (length bs) (length trail) (length stamps)) (b : NoBindings bs stamps) where
  ready-triangular : Triangular ar cells bs trail 0
  ready-triangular = record {
    formed = r.formed;
    named = r.named;
    narrow = r.narrow;
    room = r.trailed;
    counted = omega (arith, all-free bs b.free);
    listed = λ i h. absurd (omega arith);
    within = λ v r q. not-bound b v r q;
    untaken = λ v l q. later-none v;
    taken = λ v r q. not-bound b v r q;
    free = λ v l q. ap (λ es. apply es (var v)) (no-elims ar cells bs trail);
    held = λ v r q. not-bound b v r q;
    forward = λ v r q. not-bound b v r q;
  }

  pub ready-state : State ar cells bs trail stamps 0 0
  ready-state = record { triangular = ready-triangular; wide = r.wide; low = λ w. omega (arith, b.unstamped w); bound = λ w q. absurd (q (b.unstamped w)) }

-- after the last
pub state-trailed : {ar cells : List ℕ} {bs : Places} {trail stamps : List ℕ} {n top : ℕ} → State ar cells bs trail stamps n top → Trailed bs trail stamps n
state-trailed s = record { within = omega (arith, s.triangular.counted, s.triangular.room); wide = s.wide; listed = s.triangular.listed; taken = s.triangular.taken; bound = s.bound }
