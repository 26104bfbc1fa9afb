-- The walk over cells that writes terms as they are after the eliminations.
use Prim.Native.Nat.{ℕ, zero, suc, ◌+◌, ◌-◌, ◌*◌, ◌≤◌, ◌<◌}
use mathlib.Core.Path.{◌≡◌, refl, sym, ◌∙◌, ap}
use mathlib.Core.List.{List}
use native.Mathlib.Omega.{arith}
use native.Mathlib.Nat.{zero-add, suc-add}
use native.Mathlib.Numerals.{add-one}
use native.Mathlib.Decide.{dec_lt}
use lib.ListN.{length, get_or, take, set, length-set, length-take, drop_of_length-le}
use lib.Seq.{slice, take-length, slice-cons, length-slice}
use Rattle.rules.specs.Terms.{Term, Terms, var, app, nil, cons, ◌+++◌, count, size, sizes, subs}
use Rattle.rules.specs.Unification.{Substitution, done, bind, apply, applys}
use Rattle.rules.proofs.TermLaws.{sizes-join, join-nil, subs-join, applys-nil, applys-cons, apply-app}
use Rattle.matching.specs.Taking.{take_t, drop_t}
use Rattle.matching.specs.Cells.{args_of, made, reads, from, term_at}
use Rattle.matching.specs.Bindings.{Places, elims, Triangular, Final}
use Rattle.matching.proofs.CellLaws.{args-functor, args-var, made-functor, made-var, count-reads, term_at-var}
use Rattle.matching.proofs.SeenLaws.{open-var, open-functor}
use Rattle.resolvents.specs.Naming.{within, shown, Named, Wrote}
use Rattle.std.specs.Prelude.{Option, Result, Ok, Err}
use Rattle.resolvents.specs.declared.put.Full.{Full}
use Rattle.resolvents.proofs.WroteLaws.{wrote_none, wrote-over, wrote-functor, wrote-join, wrote-full, wrote-room}

take_none : (k : ℕ) → take_t k nil ≡ nil
take_none zero = refl
take_none (suc k) = refl

take_more : (a k : ℕ) (ts : Terms) → take_t (a + k) ts ≡ take_t a ts +++ take_t k (drop_t a ts)
take_more zero k ts = rw zero-add
take_more (suc a) k nil = rw suc-add (sym (take_none k))
take_more (suc a) k (cons t ts) = rw suc-add (ap (cons t) (take_more a k ts))

pub applys-append : (es : Substitution) (us vs : Terms) → applys es (us +++ vs) ≡ applys es us +++ applys es vs
applys-append done us vs = refl
applys-append (bind x s es) us vs = ap (applys es) (subs-join x s us vs) ∙ applys-append es (subs x s us) (subs x s vs)

pub args-small : (ar : List ℕ) (c : ℕ) → args_of ar c ≤ 255
args-small ar c = elim (dec_lt c 32768) [ yes l ↦ omega (arith, args-functor ar c l) | no q ↦ omega (arith, args-var ar c (omega arith)) ]

-- The first cell of a range: a functor, whose arguments and the other terms follow; or a variable. No cell is left.
range-cell : (ar cells : List ℕ) (i end : ℕ) → i < end → end ≤ length cells → within ar cells i end ≡ cons (made (get_or cells i 0) (take_t (args_of ar (get_or cells i 0)) (within ar cells (i + 1) end))) (drop_t (args_of ar (get_or cells i 0)) (within ar cells (i + 1) end))
unfolding reads
range-cell ar cells i end l h = rw add-one (ap (reads ar) (slice-cons i end cells 0 l h))

module _ (es : Substitution) (ar cells : List ℕ) (i end : ℕ) where
  range_none : (k : ℕ) → end ≤ i → applys es (take_t k (within ar cells i end)) ≡ nil
  unfolding reads
  range_none k l = rw (drop_of_length-le (take end cells) {i = i} (omega (arith, length-take end cells)), reads, take_none k, applys-nil)

  module _ (l : i < end) (h : end ≤ length cells) where
    range-functor : (k a : ℕ) → (k ≡ 0 → ⊥) → a ≡ args_of ar (get_or cells i 0) → get_or cells i 0 < 32768 → (us : Terms) × (vs : Terms) × (applys es (take_t k (within ar cells i end)) ≡ cons (app (get_or cells i 0) us) vs) × (applys es (take_t (k - 1 + a) (within ar cells (i + 1) end)) ≡ us +++ vs)
    range-functor zero a q e f = absurd (q refl)
    range-functor (suc k) a q e f =
        let r : Terms = within ar cells (i + 1) end in
        let z : suc k - 1 + a ≡ a + k = omega arith in (
          applys es (take_t a r),
          applys es (take_t k (drop_t a r)),
          rw (range-cell ar cells i end l h, ← e, made-functor (get_or cells i 0) _ f, applys-cons, apply-app),
          rw (z, take_more a k r) (applys-append es (take_t a r) (take_t k (drop_t a r))),
        )

    range-variable : (k : ℕ) → (k ≡ 0 → ⊥) → 32768 ≤ get_or cells i 0 → applys es (take_t k (within ar cells i end)) ≡ cons (apply es (term_at ar cells i)) (applys es (take_t (k - 1) (within ar cells (i + 1) end)))
    range-variable zero q f = absurd (q refl)
    range-variable (suc k) q f =
        let z : suc k - 1 ≡ k = omega arith in
        rw (range-cell ar cells i end l h, made-var (get_or cells i 0) _ f, args-var ar (get_or cells i 0) f, applys-cons, z, term_at-var ar cells i (omega arith) f)

-- Up to the cell i, with `todo` terms still to come: whatever is written from there on makes the whole.
pub record Putting (ar cells : List ℕ) (bs : Places) (trail : List ℕ) (n end total : ℕ) (Whole : List ℕ → List (Option ℕ) → List ℕ → ℕ → Result ℕ Full → Type 0) (names : List (Option ℕ)) (order out : List ℕ) (i todo at m : ℕ) : Type 0 where
  pub few : todo ≤ 65535 + 255 * i
  pub room : at ≤ length out
  pub held : Named names order m
  pub fewer : sizes (shown ar cells bs trail n i end todo) ≤ total
  pub rest : (out' : List ℕ) (names' : List (Option ℕ)) (order' : List ℕ) (m' : ℕ) (r : Result ℕ Full) → Wrote out order at m (shown ar cells bs trail n i end todo) out' names' order' m' r → Whole out' names' order' m' r

pub putting-start : {ar cells : List ℕ} {bs : Places} {trail : List ℕ} {n p end number : ℕ} {names : List (Option ℕ)} {order out : List ℕ} {m to : ℕ}
    → Named names order m → (number < 65536) × (to ≤ length out)
    → Putting ar cells bs trail n end (sizes (shown ar cells bs trail n p end number)) (Wrote out order to m (shown ar cells bs trail n p end number)) names order out p number to m
putting-start w l = record { few = omega (arith, l.0); room = l.1; held = w; fewer = omega arith; rest = λ _ _ _ _ _ h. h }

module _ {ar cells : List ℕ} {bs : Places} {trail : List ℕ} {n end total : ℕ} {Whole : List ℕ → List (Option ℕ) → List ℕ → ℕ → Result ℕ Full → Type 0} {names : List (Option ℕ)} {order out : List ℕ} {i todo at m : ℕ} (s : Putting ar cells bs trail n end total Whole names order out i todo at m) where
  -- No term is left, or no cell.
  pub putting-none : todo ≡ 0 → Whole out names order m (Ok at)
  putting-none e = s.rest out names order m (Ok at) (wrote_none s.held s.room (rw e (applys-nil (elims ar cells bs trail n))))

  pub putting-end : end ≤ i → Whole out names order m (Ok at)
  putting-end l = s.rest out names order m (Ok at) (wrote_none s.held s.room (range_none (elims ar cells bs trail n) ar cells i end todo l))

  module _ (l : i < end) (h : end ≤ length cells) (q : todo ≡ 0 → ⊥) where
    -- The cell at i is a functor.
    pub putting-functor : (a : ℕ) → at < length out → get_or cells i 0 < 32768 → a ≡ args_of ar (get_or cells i 0)
        → Putting ar cells bs trail n end total Whole names order (set out at (get_or cells i 0)) (i + 1) (todo - 1 + a) (at + 1) m
    putting-functor a o f e =
        let r = range-functor (elims ar cells bs trail n) ar cells i end l h todo a q e f in
        record {
          few = omega (arith, s.few, args-small ar (get_or cells i 0));
          room = rw length-set (omega arith);
          held = s.held;
          fewer = omega (arith, s.fewer, ap sizes r.2, ap sizes r.3, sizes-join r.0 r.1);
          rest = λ out' names' order' m' x w. s.rest out' names' order' m' x (wrote-functor r.2 r.3 w);
        }

    -- There is no room for the cell at i.
    pub putting-over : (why : Full) → length out ≤ at → Whole out names order m (Err why)
    putting-over why o = s.rest out names order m (Err why) (elim (dec_lt (get_or cells i 0) 32768) [
      | yes f ↦ wrote-over s.held (range-functor (elims ar cells bs trail n) ar cells i end l h todo (args_of ar (get_or cells i 0)) q refl f).2 o
      | no f ↦ wrote-over s.held (range-variable (elims ar cells bs trail n) ar cells i end l h todo q (omega arith)) o
    ])

    -- The variable at i, and the terms after it.
    pub putting-first : 32768 ≤ get_or cells i 0 → shown ar cells bs trail n i end todo ≡ cons (apply (elims ar cells bs trail n) (term_at ar cells i)) (shown ar cells bs trail n (i + 1) end (todo - 1))
    putting-first f = range-variable (elims ar cells bs trail n) ar cells i end l h todo q f

    pub putting-term : {out' order' : List ℕ} {names' : List (Option ℕ)} {d j : ℕ} → 32768 ≤ get_or cells i 0
        → Wrote out order at m (cons (apply (elims ar cells bs trail n) (term_at ar cells i)) nil) out' names' order' j (Ok d)
        → Putting ar cells bs trail n end total Whole names' order' out' (i + 1) (todo - 1) d j
    putting-term {d = d} f w = record {
      few = omega (arith, s.few);
      room = wrote-room w;
      held = w.kept;
      fewer = omega (arith, s.fewer, ap sizes (putting-first f));
      rest = λ out'' names'' order'' m'' x v. s.rest out'' names'' order'' m'' x (rw (putting-first f) (wrote-join w v));
    }

    pub putting-full : {out' order' : List ℕ} {names' : List (Option ℕ)} {j : ℕ} {why : Full} → 32768 ≤ get_or cells i 0
        → Wrote out order at m (cons (apply (elims ar cells bs trail n) (term_at ar cells i)) nil) out' names' order' j (Err why) → Whole out' names' order' j (Err why)
    putting-full f w = s.rest _ _ _ _ _ (rw (putting-first f) (wrote-full (shown ar cells bs trail n (i + 1) end (todo - 1)) w))

-- All the terms of a range.
take_whole : (k : ℕ) (ts : Terms) → count ts ≤ k → take_t k ts ≡ ts
take_whole k nil h = take_none k
take_whole zero (cons t ts) h = absurd (omega arith)
take_whole (suc k) (cons t ts) h = ap (cons t) (take_whole k ts (omega arith))

pub range-whole : (ar cells : List ℕ) (p end : ℕ) → end ≤ length cells → take_t (end - p) (within ar cells p end) ≡ within ar cells p end
range-whole ar cells p end h = take_whole (end - p) (within ar cells p end) (omega (arith, count-reads ar (slice p end cells), length-slice p end cells h))

-- A range up to the last cell: so many terms are those at its start.
range-seen : (es : Substitution) (ar cells : List ℕ) (p k : ℕ) → applys es (take_t k (within ar cells p (length cells))) ≡ applys es (take_t k (from ar cells p))
range-seen es ar cells p k = rw take-length

-- The term t is the one at q: a free variable, or a functor with its arguments.
module _ {ar cells : List ℕ} {bs : Places} {trail : List ℕ} {n q : ℕ} {t : Term} (g : Triangular ar cells bs trail n) (f : Final cells bs q) (v : apply (elims ar cells bs trail n) (term_at ar cells q) ≡ t) where
  pub bound-variable : {out order : List ℕ} {to m : ℕ} {out' order' : List ℕ} {names' : List (Option ℕ)} {m' : ℕ} {r : Result ℕ Full} → 32768 ≤ get_or cells q 0
      → Wrote out order to m (cons (var (get_or cells q 0 - 32768)) nil) out' names' order' m' r → Wrote out order to m (cons t nil) out' names' order' m' r
  bound-variable l w = rw (← v, open-var g f l) w

  module _ (l : get_or cells q 0 < 32768) (a : ℕ) (e : a ≡ args_of ar (get_or cells q 0)) where
    bound-term : t ≡ app (get_or cells q 0) (shown ar cells bs trail n (q + 1) (length cells) a)
    bound-term = sym v ∙ open-functor g a e f l ∙ ap (app (get_or cells q 0)) (sym (range-seen (elims ar cells bs trail n) ar cells (q + 1) a))

    pub bound-less : {ts us : Terms} → ts ≡ cons t us → sizes (shown ar cells bs trail n (q + 1) (length cells) a) < sizes ts
    bound-less d = omega (arith, ap sizes d, ap size bound-term)

    pub bound-functor : {out order : List ℕ} {to m : ℕ} {out' order' : List ℕ} {names' : List (Option ℕ)} {m' : ℕ} {r : Result ℕ Full}
        → Wrote (set out to (get_or cells q 0)) order (to + 1) m (shown ar cells bs trail n (q + 1) (length cells) a) out' names' order' m' r
        → Wrote out order to m (cons t nil) out' names' order' m' r
    bound-functor w = wrote-functor (ap (λ u. cons u nil) bound-term) (sym (join-nil (shown ar cells bs trail n (q + 1) (length cells) a))) w
