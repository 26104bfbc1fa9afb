-- What the unification of one pair, and of one pair and then the others, says. Assumes nothing.
use mathlib.Core.Path.{◌≡◌, refl, sym, ◌∙◌, ap, ap₂, subst}
use mathlib.Core.Logic.{◌≢◌}
use mathlib.Core.List.{List}
use Prim.Native.Nat.{ℕ, zero, suc, ◌+◌, ◌-◌, ◌*◌, ◌≤◌, ◌<◌}
use native.Mathlib.Decide.{ℕ_discrete, dec_lt}
use native.Mathlib.Omega.{arith}
use lib.ListN.{get_or}
use Rattle.rules.specs.Terms.{Term, Terms, var, app, nil, cons, occ, occs, count}
use Rattle.rules.specs.Unification.{Substitution, done, bind, applys, Unification, fails, spent, solved, tick, bound, unify, equations}
use Rattle.rules.proofs.TermLaws.{join, ite-yes, ite-no, occ-other, join-nil, applys-count, applys-nil, applys-join, substitutions-done, substitutions-assoc}
use Rattle.rules.proofs.UnifyLaws.{Found, unify-found, unify-none, unify-same, unify-var, unify-left, unify-left-fails, unify-right, unify-right-fails, unify-args, unify-differ, after, then, unify-join, taken-tick, taken-cons}
use Rattle.matching.specs.Taking.{take_t}
use Rattle.matching.specs.Cells.{args_of, from, others, RestAt}
use Rattle.matching.specs.Bindings.{Places, elims_after, elims, value, alone, seen, State, Paired}
use Rattle.matching.specs.Outcomes.{eliminated, OutcomeFrom, UnifiesFrom, OutcomeOf, Unifies}
use Rattle.matching.specs.declared.unify.Outcome.{Outcome}
use Rattle.matching.specs.declared.unify.Outcome.TheVariants.{Unified, Failed, Broken}
use Rattle.matching.proofs.TakeLaws.{count-take}
use Rattle.matching.proofs.SeenLaws.{Opened, open-var, open-functor, args-enough}
use Rattle.matching.proofs.BindLaws.{state-trailed}

-- 1. One equation and none after it.

bound-none : (x : ℕ) (s : Term) → bound x s (unify nil nil) ≡ solved 1 (bind x s done)
bound-none x s = ap (bound x s) unify-none

module _ (x : ℕ) (s : Term) where
  eliminated-yes : occ x s ≡ 0 → eliminated x s ≡ solved 1 (bind x s done)
  unfolding eliminated
  eliminated-yes h = ite-yes (ℕ_discrete (occ x s) 0) _ _ h

  eliminated-no : occ x s ≢ 0 → eliminated x s ≡ fails 1
  unfolding eliminated
  eliminated-no h = ite-no (ℕ_discrete (occ x s) 0) _ _ h

alone-var : (x y : ℕ) → x ≢ y → unify (cons (var x) nil) (cons (var y) nil) ≡ eliminated x (var y)
alone-var x y h = unify-var nil nil x y h ∙ bound-none x (var y) ∙ sym (eliminated-yes x (var y) (occ-other x y h))

alone-left : (x g : ℕ) (vs : Terms) → unify (cons (var x) nil) (cons (app g vs) nil) ≡ eliminated x (app g vs)
alone-left x g vs = cases (ℕ_discrete (occs x vs) 0)
  where
    cases : Dec (occs x vs ≡ 0) → unify (cons (var x) nil) (cons (app g vs) nil) ≡ eliminated x (app g vs)
    cases (yes h) = unify-left nil nil x g vs h ∙ bound-none x (app g vs) ∙ sym (eliminated-yes x (app g vs) h)
    cases (no h) = unify-left-fails nil nil x g vs h ∙ sym (eliminated-no x (app g vs) h)

alone-right : (f y : ℕ) (us : Terms) → unify (cons (app f us) nil) (cons (var y) nil) ≡ eliminated y (app f us)
alone-right f y us = cases (ℕ_discrete (occs y us) 0)
  where
    cases : Dec (occs y us ≡ 0) → unify (cons (app f us) nil) (cons (var y) nil) ≡ eliminated y (app f us)
    cases (yes h) = unify-right nil nil f y us h ∙ bound-none y (app f us) ∙ sym (eliminated-yes y (app f us) h)
    cases (no h) = unify-right-fails nil nil f y us h ∙ sym (eliminated-no y (app f us) h)

abbrev one : Term → Term → Unification
one t u = unify (cons t nil) (cons u nil)

module _ {ar cells : List ℕ} {bs : Places} {trail stamps : List ℕ} {n a b : ℕ} (u : Paired ar cells bs trail stamps n a b) where
  pub pair-args : (k : ℕ) → k ≡ args_of ar (get_or cells a 0) → get_or cells a 0 < 32768 → get_or cells b 0 < 32768 → get_or cells a 0 ≡ get_or cells b 0 → unify (alone ar cells bs trail n a) (alone ar cells bs trail n b) ≡ tick (unify (seen ar cells bs trail n (a + 1) k) (seen ar cells bs trail n (b + 1) k))
  pair-args k e la lb q =
      ap₂ one (open-functor u.state.triangular k e u.left la) (open-functor u.state.triangular k e' u.right lb)
      ∙ unify-args nil nil (get_or cells a 0) (get_or cells b 0) us vs q (both (from ar cells (a + 1)) (args-enough u.state.triangular k e u.left) ∙ sym (both (from ar cells (b + 1)) (args-enough u.state.triangular k e' u.right)))
      ∙ ap tick (ap₂ unify (join-nil us) (join-nil vs))
    where
      us : Terms
      us = seen ar cells bs trail n (a + 1) k

      vs : Terms
      vs = seen ar cells bs trail n (b + 1) k

      e' : k ≡ args_of ar (get_or cells b 0)
      e' = e ∙ ap (args_of ar) q

      both : (ts : Terms) → k ≤ count ts → count (applys (elims ar cells bs trail n) (take_t k ts)) ≡ k
      both ts h = applys-count (elims ar cells bs trail n) (take_t k ts) ∙ count-take k ts h

  pub args-there : (k : ℕ) → k ≡ args_of ar (get_or cells a 0) → get_or cells a 0 ≡ get_or cells b 0 → k ≤ count (from ar cells (b + 1))
  args-there k e q = args-enough u.state.triangular k (e ∙ ap (args_of ar) q) u.right

  pub args-fewer : (k : ℕ) → k ≡ args_of ar (get_or cells a 0) → get_or cells a 0 < 32768 → get_or cells b 0 < 32768 → get_or cells a 0 ≡ get_or cells b 0 → 2 * equations (unify (seen ar cells bs trail n (a + 1) k) (seen ar cells bs trail n (b + 1) k)) + 1 < 2 * equations (unify (alone ar cells bs trail n a) (alone ar cells bs trail n b))
  args-fewer k e la lb q =
      omega (arith, ap equations (pair-args k e la lb q), taken-tick (unify (seen ar cells bs trail n (a + 1) k) (seen ar cells bs trail n (b + 1) k)) (unify-found (seen ar cells bs trail n (a + 1) k) (seen ar cells bs trail n (b + 1) k)))

  pub pair-differ : get_or cells a 0 < 32768 → get_or cells b 0 < 32768 → (get_or cells a 0 ≡ get_or cells b 0 → ⊥) → unify (alone ar cells bs trail n a) (alone ar cells bs trail n b) ≡ fails 1
  pair-differ la lb q = ap₂ one (open-functor u.state.triangular _ refl u.left la) (open-functor u.state.triangular _ refl u.right lb) ∙ unify-differ nil nil (get_or cells a 0) (get_or cells b 0) _ _ q

  pub pair-right : get_or cells a 0 < 32768 → 32768 ≤ get_or cells b 0 → unify (alone ar cells bs trail n a) (alone ar cells bs trail n b) ≡ eliminated (get_or cells b 0 - 32768) (value ar cells bs trail n a)
  pair-right la lb =
      let t = open-functor u.state.triangular _ refl u.left la in
      ap₂ one t (open-var u.state.triangular u.right lb) ∙ alone-right (get_or cells a 0) (get_or cells b 0 - 32768) _ ∙ ap (eliminated (get_or cells b 0 - 32768)) (sym t)

  pub pair_same : 32768 ≤ get_or cells a 0 → get_or cells a 0 ≡ get_or cells b 0 → unify (alone ar cells bs trail n a) (alone ar cells bs trail n b) ≡ solved 1 done
  pair_same la q =
      ap₂ one (open-var u.state.triangular u.left la) (open-var u.state.triangular u.right (omega arith))
      ∙ unify-same nil nil (get_or cells a 0 - 32768) (get_or cells b 0 - 32768) (ap (λ i. i - 32768) q)
      ∙ ap tick unify-none

  pub pair_left : 32768 ≤ get_or cells a 0 → (get_or cells a 0 ≡ get_or cells b 0 → ⊥) → unify (alone ar cells bs trail n a) (alone ar cells bs trail n b) ≡ eliminated (get_or cells a 0 - 32768) (value ar cells bs trail n b)
  pair_left la q = cases (dec_lt (get_or cells b 0) 32768)
    where
      cases : Dec (get_or cells b 0 < 32768) → unify (alone ar cells bs trail n a) (alone ar cells bs trail n b) ≡ eliminated (get_or cells a 0 - 32768) (value ar cells bs trail n b)
      cases (yes lb) =
          let t = open-functor u.state.triangular _ refl u.right lb in
          ap₂ one (open-var u.state.triangular u.left la) t ∙ alone-left (get_or cells a 0 - 32768) (get_or cells b 0) _ ∙ ap (eliminated (get_or cells a 0 - 32768)) (sym t)
      cases (no nb) =
          let lb : 32768 ≤ get_or cells b 0 = omega arith in
          let t = open-var u.state.triangular u.right lb in
          ap₂ one (open-var u.state.triangular u.left la) t ∙ alone-var (get_or cells a 0 - 32768) (get_or cells b 0 - 32768) (λ z. q (omega arith)) ∙ ap (eliminated (get_or cells a 0 - 32768)) (sym t)

-- 2. What it leaves.

tells-tick : (o : Unification) → Found o → (rest left : ℕ) (before now' : Substitution) (r : Outcome) → OutcomeFrom o rest before now' r → suc rest ≡ left → OutcomeFrom (tick o) left before now' r
tells-tick o f rest left before now' (Unified l) w z = (suc w.0, w.1, ap tick w.2, w.3, omega (arith, w.4))
tells-tick o f rest left before now' (Failed l) w z = (suc w.0, ap tick w.1, omega (arith, w.2))
tells-tick o f rest left before now' Broken w z = omega (arith, w, taken-tick o f)

module _ {ar cells : List ℕ} {bs : Places} {trail : List ℕ} {n left : ℕ} where
  pub unifies-by : {o o' : Unification} {bs' : Places} {trail' stamps' : List ℕ} {n' : ℕ} {r : Outcome} → UnifiesFrom ar cells bs trail n o left bs' trail' stamps' n' r → o' ≡ o → UnifiesFrom ar cells bs trail n o' left bs' trail' stamps' n' r
  unifies-by {bs' = bs'} {trail'} {stamps'} {n'} {r} w e = subst (λ x. UnifiesFrom ar cells bs trail n x left bs' trail' stamps' n' r) (sym e) w

  -- one equation and none after it
  pub unifies-one : {rest : ℕ} {o o' : Unification} {bs' : Places} {trail' stamps' : List ℕ} {n' : ℕ} {r : Outcome} → UnifiesFrom ar cells bs trail n o (suc rest) bs' trail' stamps' n' r → suc rest ≡ left → o' ≡ o → UnifiesFrom ar cells bs trail n o' left bs' trail' stamps' n' r
  unifies-one {o = o} {bs' = bs'} {trail'} {stamps'} {n'} {r} w z e = unifies-by (subst (λ x. UnifiesFrom ar cells bs trail n o x bs' trail' stamps' n' r) z w) e

  pub unifies-tick : (rest : ℕ) (ts us : Terms) {o' : Unification} {bs' : Places} {trail' stamps' : List ℕ} {n' : ℕ} {r : Outcome} → UnifiesFrom ar cells bs trail n (unify ts us) rest bs' trail' stamps' n' r → suc rest ≡ left → o' ≡ tick (unify ts us) → UnifiesFrom ar cells bs trail n o' left bs' trail' stamps' n' r
  unifies-tick rest ts us {bs' = bs'} {trail'} {n' = n'} {r = r} w z e =
      unifies-by (record { state = w.state; tells = tells-tick (unify ts us) (unify-found ts us) rest left (elims ar cells bs trail n) (elims ar cells bs' trail' n') r w.tells z }) e

  pub unifies-none : {stamps : List ℕ} {o : Unification} (k l : ℕ) → State ar cells bs trail stamps n n → k + l ≡ left → o ≡ solved k done → UnifiesFrom ar cells bs trail n o left bs trail stamps n (Unified l)
  unifies-none k l s q e = record { state = s; tells = (k, done, e, sym (substitutions-done (elims ar cells bs trail n)), q) }

  pub unifies-fails : {stamps : List ℕ} {o : Unification} (k l : ℕ) → State ar cells bs trail stamps n n → k + l ≡ left → o ≡ fails k → UnifiesFrom ar cells bs trail n o left bs trail stamps n (Failed l)
  unifies-fails k l s q e = record { state = record { triangular = s.triangular; wide = s.wide; low = λ w. omega (arith, s.low w); bound = s.bound }; tells = (k, e, q) }

module _ {ar cells : List ℕ} {bs : Places} {trail stamps : List ℕ} {n a b left : ℕ} (u : Paired ar cells bs trail stamps n a b) where
  -- an equation that is not taken
  pub unifies-out : left ≡ 0 → UnifiesFrom ar cells bs trail n (unify (alone ar cells bs trail n a) (alone ar cells bs trail n b)) left bs trail stamps n Broken
  unifies-out z = record { state = u.state; tells = omega (arith, taken-cons (value ar cells bs trail n a) (value ar cells bs trail n b) nil nil) }

  pub unifies-args : (k : ℕ) → k ≡ args_of ar (get_or cells a 0) → get_or cells a 0 < 32768 → get_or cells b 0 < 32768 → get_or cells a 0 ≡ get_or cells b 0 → {rest : ℕ} {bs' : Places} {trail' stamps' : List ℕ} {n' : ℕ} {r : Outcome} → UnifiesFrom ar cells bs trail n (unify (seen ar cells bs trail n (a + 1) k) (seen ar cells bs trail n (b + 1) k)) rest bs' trail' stamps' n' r → suc rest ≡ left → UnifiesFrom ar cells bs trail n (unify (alone ar cells bs trail n a) (alone ar cells bs trail n b)) left bs' trail' stamps' n' r
  unifies-args k e la lb q {rest} w z = unifies-tick rest (seen ar cells bs trail n (a + 1) k) (seen ar cells bs trail n (b + 1) k) w z (pair-args u k e la lb q)

-- no equation
pub none_left : (es : Substitution) (ts us : Terms) (k : ℕ) → k ≡ 0 → unify (applys es (take_t k ts)) (applys es (take_t k us)) ≡ solved 0 done
none_left es ts us zero e = ap₂ unify (applys-nil es) (applys-nil es) ∙ unify-none
none_left es ts us (suc k) e = absurd (omega arith)

-- 3. One pair and then the others.

taken-after : (k : ℕ) (es : Substitution) (o : Unification) → Found o → equations (after k es o) ≡ k + equations o
taken-after k es (fails j) f = refl
taken-after k es spent f = absurd f
taken-after k es (solved j fs) f = refl

taken_then : (o : Unification) (l r : Terms) → Found o → equations o ≤ equations (then o l r)
taken_then (fails k) l r f = omega arith
taken_then spent l r f = absurd f
taken_then (solved k es) l r f = omega (arith, taken-after k es (unify (applys es l) (applys es r)) (unify-found (applys es l) (applys es r)))

tells-after : (k : ℕ) (es : Substitution) (o : Unification) → Found o → (left l : ℕ) → k + l ≡ left → (before mid end : Substitution) (r : Outcome) → mid ≡ join before es → OutcomeFrom o l mid end r → OutcomeFrom (after k es o) left before end r
tells-after k es o f left l q before mid end (Unified d) e w = (k + w.0, join es w.1, ap (after k es) w.2, w.3 ∙ ap (λ x. join x w.1) e ∙ substitutions-assoc before es w.1, omega (arith, w.4))
tells-after k es o f left l q before mid end (Failed d) e w = (k + w.0, ap (after k es) w.1, omega (arith, w.2))
tells-after k es o f left l q before mid end Broken e w = omega (arith, w, taken-after k es o f)

module _ {ar cells : List ℕ} {bs : Places} {trail : List ℕ} {n p q k a b : ℕ} (u : Opened ar cells bs trail n p k a) (v : Opened ar cells bs trail n q k b) where
  abbrev ls : Terms
  ls = applys (elims ar cells bs trail n) (others ar cells p k)

  abbrev rs : Terms
  rs = applys (elims ar cells bs trail n) (others ar cells q k)

  joined : unify (seen ar cells bs trail n p k) (seen ar cells bs trail n q k) ≡ then (unify (alone ar cells bs trail n a) (alone ar cells bs trail n b)) ls rs
  joined = ap₂ unify u.split v.split ∙ unify-join (alone ar cells bs trail n a) (alone ar cells bs trail n b) ls rs refl

  pub first-fewer : 2 * equations (unify (alone ar cells bs trail n a) (alone ar cells bs trail n b)) < 2 * equations (unify (seen ar cells bs trail n p k) (seen ar cells bs trail n q k)) + 1
  first-fewer = omega (arith, ap equations joined, taken_then (unify (alone ar cells bs trail n a) (alone ar cells bs trail n b)) ls rs (unify-found (alone ar cells bs trail n a) (alone ar cells bs trail n b)))

  -- where the first is not unified, the others are not reached
  pub unifies-stop : {bs₁ : Places} {trail₁ stamps₁ : List ℕ} {m left : ℕ} (r : Outcome) → ((l : ℕ) → r ≡ Unified l → ⊥) → UnifiesFrom ar cells bs trail n (unify (alone ar cells bs trail n a) (alone ar cells bs trail n b)) left bs₁ trail₁ stamps₁ m r → UnifiesFrom ar cells bs trail n (unify (seen ar cells bs trail n p k) (seen ar cells bs trail n q k)) left bs₁ trail₁ stamps₁ m r
  unifies-stop (Unified l) other w = absurd (other l refl)
  unifies-stop (Failed l) other w = record { state = w.state; tells = (w.tells.0, joined ∙ ap (λ o. then o ls rs) w.tells.1, w.tells.2) }
  unifies-stop Broken other w = record { state = w.state; tells = omega (arith, w.tells, first-fewer) }

  -- the others, at p' and q', after the eliminations of the first
  module _ {bs₁ : Places} {trail₁ stamps₁ : List ℕ} {m l left : ℕ} (w : UnifiesFrom ar cells bs trail n (unify (alone ar cells bs trail n a) (alone ar cells bs trail n b)) left bs₁ trail₁ stamps₁ m (Unified l)) {p' q' : ℕ} (s : RestAt ar cells p k p') (t : RestAt ar cells q k q') where
    moved : {i i' : ℕ} → RestAt ar cells i k i' → seen ar cells bs₁ trail₁ m i' (k - 1) ≡ applys w.tells.1 (applys (elims ar cells bs trail n) (others ar cells i k))
    moved {i} x = ap₂ applys w.tells.3 x.same ∙ applys-join (elims ar cells bs trail n) w.tells.1 (others ar cells i k)

    abbrev o₁ : Unification
    o₁ = unify (seen ar cells bs₁ trail₁ m p' (k - 1)) (seen ar cells bs₁ trail₁ m q' (k - 1))

    rest : unify (seen ar cells bs trail n p k) (seen ar cells bs trail n q k) ≡ after w.tells.0 w.tells.1 o₁
    rest = joined ∙ ap (λ o. then o ls rs) w.tells.2 ∙ ap (after w.tells.0 w.tells.1) (ap₂ unify (sym (moved s)) (sym (moved t)))

    pub rest-fewer : 2 * equations (unify (seen ar cells bs₁ trail₁ m p' (k - 1)) (seen ar cells bs₁ trail₁ m q' (k - 1))) + 1 < 2 * equations (unify (seen ar cells bs trail n p k) (seen ar cells bs trail n q k)) + 1
    rest-fewer =
        omega (
          arith,
          ap equations rest,
          taken-after w.tells.0 w.tells.1 o₁ (unify-found (seen ar cells bs₁ trail₁ m p' (k - 1)) (seen ar cells bs₁ trail₁ m q' (k - 1))),
          taken-cons (value ar cells bs trail n a) (value ar cells bs trail n b) nil nil,
          ap equations w.tells.2,
        )

    pub unifies-rest : {bs₂ : Places} {trail₂ stamps₂ : List ℕ} {n' : ℕ} {r : Outcome} → UnifiesFrom ar cells bs₁ trail₁ m (unify (seen ar cells bs₁ trail₁ m p' (k - 1)) (seen ar cells bs₁ trail₁ m q' (k - 1))) l bs₂ trail₂ stamps₂ n' r → UnifiesFrom ar cells bs trail n (unify (seen ar cells bs trail n p k) (seen ar cells bs trail n q k)) left bs₂ trail₂ stamps₂ n' r
    unifies-rest {bs₂} {trail₂} {n' = n'} {r = r} z =
        let f = unify-found (seen ar cells bs₁ trail₁ m p' (k - 1)) (seen ar cells bs₁ trail₁ m q' (k - 1)) in
        unifies-by (record { state = z.state; tells = tells-after w.tells.0 w.tells.1 o₁ f left l w.tells.4 (elims ar cells bs trail n) (elims ar cells bs₁ trail₁ m) (elims ar cells bs₂ trail₂ n') r w.tells.3 z.tells }) rest

-- 4. From no bindings.

is-told : (o : Unification) (left : ℕ) (es : Substitution) (r : Outcome) → OutcomeFrom o left done es r → OutcomeOf o left es r
is-told o left es (Unified l) w = (w.0, w.2 ∙ ap (solved w.0) (sym w.3), w.4)
is-told o left es (Failed l) w = w
is-told o left es Broken w = w

pub unifies-ended : {ar cells : List ℕ} {bs : Places} {trail : List ℕ} (p q k : ℕ) {left : ℕ} {bs' : Places} {trail' stamps' : List ℕ} {n' : ℕ} {r : Outcome} → UnifiesFrom ar cells bs trail 0 (unify (seen ar cells bs trail 0 p k) (seen ar cells bs trail 0 q k)) left bs' trail' stamps' n' r → Unifies ar cells (unify (take_t k (from ar cells p)) (take_t k (from ar cells q))) left bs' trail' stamps' n' r
unfolding elims_after
unifies-ended {ar} {cells} p q k {left} {bs'} {trail'} {n' = n'} {r = r} w = record { triangular = w.state.triangular; trailed = state-trailed w.state; is = is-told _ left (elims ar cells bs' trail' n') r w.tells }
