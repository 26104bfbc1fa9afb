-- Writing terms under new numbers: a functor and then its arguments, one list and then another, a variable.
use Prim.Native.Nat.{ℕ, suc, ◌+◌, ◌≤◌, ◌<◌}
use mathlib.Core.Path.{◌≡◌, refl, sym, ◌∙◌, ap, ap₂}
use mathlib.Core.List.{List, [], ◌∷◌, ◌++◌}
use native.Mathlib.Omega.{arith}
use native.Mathlib.Numerals.{add-one}
use lib.ListN.{length, get_or, take, set, length-set}
use lib.Seq.{sets, length-sets}
use Rattle.rules.specs.Terms.{Term, Terms, var, app, nil, cons, ◌+++◌, size, sizes, occ, occs, vars_terms, rename, renames}
use Rattle.rules.specs.Cells.{write_terms}
use Rattle.rules.specs.Goals.{appearing, position}
use Rattle.rules.proofs.TermLaws.{sizes-join, occ-same, size-pos}
use Rattle.rules.proofs.CellLaws.{terms-length, write-append, write-join, vars-join}
use Rattle.rules.proofs.NumberingLaws.{vars-append, occs-in, position-left, appearing-extends, appearing-finds}
use Rattle.resolvents.specs.Naming.{Named, order_after, cells_under, Wrote}
use Rattle.std.specs.Prelude.{Option, Some, None, Result, Ok, Err}
use Rattle.resolvents.specs.declared.put.Full.{Full}
use Rattle.resolvents.proofs.NamingLaws.{appearing-append, appears-old, appears-new, position-last, named-many, is-named, not_named, number_of, order-more, named_more}

-- RENAMED TERMS
module _ (ρ : ℕ → ℕ) where
  mutual
    rename-size : (t : Term) → size (rename ρ t) ≡ size t
    rename-size (var v) = refl
    rename-size (app f ts) = ap suc (renames-sizes ts)

    pub renames-sizes : (ts : Terms) → sizes (renames ρ ts) ≡ sizes ts
    renames-sizes nil = refl
    renames-sizes (cons t ts) = ap₂ ◌+◌ (rename-size t) (renames-sizes ts)

  pub renames-join : (ts us : Terms) → renames ρ (ts +++ us) ≡ renames ρ ts +++ renames ρ us
  renames-join nil us = refl
  renames-join (cons t ts) us = ap (cons (rename ρ t)) (renames-join ts us)

-- Renamings that agree on the variables.
module _ (ρ σ : ℕ → ℕ) where
  mutual
    rename-agree : (t : Term) → ((x : ℕ) → 0 < occ x t → ρ x ≡ σ x) → rename ρ t ≡ rename σ t
    rename-agree (var v) h = ap var (h v (omega (arith, occ-same v)))
    rename-agree (app f ts) h = ap (app f) (renames-agree ts h)

    renames-agree : (ts : Terms) → ((x : ℕ) → 0 < occs x ts → ρ x ≡ σ x) → renames ρ ts ≡ renames σ ts
    renames-agree nil h = refl
    renames-agree (cons t ts) h = ap₂ cons (rename-agree t (λ x k. h x (omega arith))) (renames-agree ts (λ x k. h x (omega arith)))

-- CELLS UNDER NEW NUMBERS
pub length-under : (ys : List ℕ) (ts : Terms) → length (cells_under ys ts) ≡ sizes ts
length-under ys ts = omega (arith, terms-length (renames (position ys) ts) [], renames-sizes (position ys) ts)

under-app : (ys : List ℕ) (f : ℕ) (us vs : Terms) → cells_under ys (cons (app f us) vs) ≡ f ∷ cells_under ys (us +++ vs)
under-app ys f us vs = ap (f ∷◌) (sym (ap (λ ts. write_terms ts []) (renames-join (position ys) us vs) ∙ write-join (renames (position ys) us) (renames (position ys) vs) []))

under-join : (ys : List ℕ) (ts us : Terms) → cells_under ys (ts +++ us) ≡ cells_under ys ts ++ cells_under ys us
under-join ys ts us =
    ap (λ vs. write_terms vs []) (renames-join (position ys) ts us) ∙ write-join (renames (position ys) ts) (renames (position ys) us) []
    ∙ write-append (renames (position ys) ts) (cells_under ys us)

-- The variables named after one list and then another; the numbers of the first list's variables stay.
order-join : (xs : List ℕ) (ts us : Terms) → order_after xs (ts +++ us) ≡ order_after (order_after xs ts) us
order-join xs ts us = ap (appearing xs) (vars-join ts us [] ∙ vars-append ts (vars_terms us [])) ∙ appearing-append xs (vars_terms ts []) (vars_terms us [])

under_stays : (xs : List ℕ) (ts us : Terms) → cells_under (order_after (order_after xs ts) us) ts ≡ cells_under (order_after xs ts) ts
under_stays xs ts us = ap (λ vs. write_terms vs []) (renames-agree (position (order_after (order_after xs ts) us)) (position (order_after xs ts)) ts stays)
  where
    stays : (x : ℕ) → 0 < occs x ts → position (order_after (order_after xs ts) us) x ≡ position (order_after xs ts) x
    stays x h =
        let r = appearing-extends (order_after xs ts) (vars_terms us []) in
        ap (λ ys. position ys x) r.1 ∙ position-left r.0 x (appearing-finds x xs (occs-in x ts [] h))

sets-append : (us vs l : List ℕ) (i : ℕ) → sets l i (us ++ vs) ≡ sets (sets l i us) (i + length us) vs
sets-append [] vs l i = ap (λ j. sets l j vs) (omega arith)
sets-append (u ∷ us) vs l i = sets-append us vs (set l i u) (suc i) ∙ ap (λ j. sets (sets (set l i u) (suc i) us) j vs) (omega arith)

-- WHAT IS WRITTEN
pub wrote_none : {out order : List ℕ} {names : List (Option ℕ)} {to m : ℕ} {ts : Terms} → Named names order m → to ≤ length out → ts ≡ nil → Wrote out order to m ts out names order m (Ok to)
unfolding appearing
wrote_none {out} {order} {names} {to} {m} w l e = rw e (record { tells = (omega arith, l, refl, refl); kept = w })

-- There is no room for a first cell.
pub wrote-over : {out order : List ℕ} {to m : ℕ} {ts us : Terms} {t : Term} {out' order' : List ℕ} {names' : List (Option ℕ)} {why : Full} → Named names' order' m → ts ≡ cons t us → length out ≤ to → Wrote out order to m ts out' names' order' m (Err why)
wrote-over {t = t} w e l = rw e (record { tells = omega (arith, size-pos t); kept = w })

-- A functor, and then its arguments and the other terms.
pub wrote-functor :
    {out order : List ℕ} {to m f : ℕ} {us vs ts ws : Terms} {out' order' : List ℕ} {names' : List (Option ℕ)} {m' : ℕ} {r : Result ℕ Full} → ts ≡ cons (app f us) vs → ws ≡ us +++ vs
    → Wrote (set out to f) order (to + 1) m ws out' names' order' m' r → Wrote out order to m ts out' names' order' m' r
wrote-functor {out} {order} {to} {m} {f} {us} {vs} {ts} {ws} {r = Ok e} p q w =
    let h = w.tells in
    let z : order_after (take m order) ws ≡ order_after (take m order) (cons (app f us) vs) = ap (appearing (take m order)) (ap (λ us. vars_terms us []) q ∙ vars-join us vs []) in
    rw p (record {
      tells = (
        omega (arith, h.0, ap sizes q, sizes-join us vs),
        omega (arith, h.1, length-set out to f),
        h.2 ∙ z,
        (rw add-one at h.3) ∙ ap (sets out to) (ap₂ (λ ys us. f ∷ cells_under ys us) z q ∙ sym (under-app (order_after (take m order) (cons (app f us) vs)) f us vs)),
      );
      kept = w.kept;
    })
wrote-functor {out} {order} {to} {m} {f} {us} {vs} {r = Err why} p q w = rw p (record { tells = omega (arith, w.tells, length-set out to f, ap sizes q, sizes-join us vs); kept = w.kept })

-- One list and then another; where the first does not fit, the whole does not.
pub wrote-join :
    {out order : List ℕ} {to m e k : ℕ} {ts us : Terms} {out₁ order₁ out₂ order₂ : List ℕ} {names₁ names₂ : List (Option ℕ)} {m' : ℕ} {r : Result ℕ Full}
    → Wrote out order to m ts out₁ names₁ order₁ k (Ok e) → Wrote out₁ order₁ e k us out₂ names₂ order₂ m' r → Wrote out order to m (ts +++ us) out₂ names₂ order₂ m' r
wrote-join {out} {order} {to} {m} {e} {k} {ts} {us} {out₁} {order₁ = order₁} {r = Ok d} v w =
    let h = v.tells in
    let g = w.tells in
    let xs : List ℕ = take m order in
    let ys : List ℕ = order_after xs ts in
    let zs : List ℕ = order_after ys us in
    record {
      tells = (
        omega (arith, h.0, g.0, sizes-join ts us),
        omega (arith, g.1, ap length h.3, length-sets out to (cells_under ys ts)),
        g.2 ∙ ap (λ l. order_after l us) h.2 ∙ sym (order-join xs ts us),
        rw h.2 at g.3
            ∙ ap₂ (λ l i. sets l i (cells_under zs us)) h.3 (omega (arith, h.0, length-under ys ts))
            ∙ sym (sets-append (cells_under ys ts) (cells_under zs us) out to)
            ∙ ap (λ l. sets out to (l ++ cells_under zs us)) (sym (under_stays xs ts us))
            ∙ ap (sets out to) (sym (under-join zs ts us))
            ∙ ap (λ l. sets out to (cells_under l (ts +++ us))) (sym (order-join xs ts us)),
      );
      kept = w.kept;
    }
wrote-join {out} {order} {to} {m} {ts = ts} {us} {r = Err why} v w =
    let h = v.tells in
    record { tells = omega (arith, w.tells, h.0, ap length h.3, length-sets out to (cells_under (order_after (take m order) ts) ts), sizes-join ts us); kept = w.kept }

pub wrote-full :
    {out order : List ℕ} {to m k : ℕ} {ts : Terms} (us : Terms) {out' order' : List ℕ} {names' : List (Option ℕ)} {why : Full}
    → Wrote out order to m ts out' names' order' k (Err why) → Wrote out order to m (ts +++ us) out' names' order' k (Err why)
wrote-full {ts = ts} us w = record { tells = omega (arith, w.tells, sizes-join ts us); kept = w.kept }

pub wrote-room : {out order : List ℕ} {to m e k : ℕ} {ts : Terms} {out' order' : List ℕ} {names' : List (Option ℕ)} → Wrote out order to m ts out' names' order' k (Ok e) → e ≤ length out'
wrote-room {out} {order} {to} {m} {ts = ts} w = let h = w.tells in omega (arith, h.1, ap length h.3, length-sets out to (cells_under (order_after (take m order) ts) ts))

pub wrote-length : {out order : List ℕ} {to m e k : ℕ} {ts : Terms} {out' order' : List ℕ} {names' : List (Option ℕ)} → Wrote out order to m ts out' names' order' k (Ok e) → length out' ≡ length out
wrote-length {out} {order} {to} {m} {ts = ts} w = ap length w.tells.3 ∙ length-sets out to (cells_under (order_after (take m order) ts) ts)

-- A variable: with the next number, or with the one that it has.
module _ {names : List (Option ℕ)} {order : List ℕ} {m : ℕ} (w : Named names order m) {v : ℕ} (l : v < length names) {out : List ℕ} {to : ℕ} (room : to < length out) where
  pub wrote-new : get_or names v None ≡ None → Wrote out order to m (cons (var v) nil) (set out to (32768 + m)) (set names v (Some m)) (set order m v) (m + 1) (Ok (to + 1))
  wrote-new e =
      let n = not_named w l e in
      let a = appears-new (take m order) v n in
      record {
        tells = (omega arith, omega arith, order-more w l e ∙ sym a, ap (λ k. set out to (32768 + k)) (sym (ap (λ ys. position ys v) a ∙ position-last (take m order) v n ∙ named-many w)));
        kept = named_more w l e;
      }

  pub wrote-old : {k : ℕ} → get_or names v None ≡ Some k → Wrote out order to m (cons (var v) nil) (set out to (32768 + k)) names order m (Ok (to + 1))
  wrote-old e =
      let a = appears-old (take m order) v (is-named w l e) in
      record {
        tells = (omega arith, omega arith, sym a, ap (λ k. set out to (32768 + k)) (number_of w l e ∙ ap (λ ys. position ys v) (sym a)));
        kept = w;
      }
