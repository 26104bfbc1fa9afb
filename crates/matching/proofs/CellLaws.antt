-- Laws of cells. Assumes nothing.
use mathlib.Core.Path.{◌≡◌, refl, sym, ◌∙◌, ap}
use mathlib.Core.List.{List, [], ◌∷◌}
use Prim.Native.Nat.{ℕ, zero, suc, ◌+◌, ◌-◌, ◌%◌, ◌≤◌, ◌<◌}
use native.Mathlib.Decide.{dec_lt}
use native.Mathlib.Omega.{arith}
use native.Mathlib.Numerals.{add-one}
use lib.ListN.{length, get_or, drop, length-drop}
use lib.Seq.{drop-cons}
use Rattle.rules.specs.Terms.{Terms, var, app, nil, cons, count}
use Rattle.rules.proofs.TermLaws.{ite-yes, ite-no}
use Rattle.signature.specs.Symbols.{arity_at}
use Rattle.matching.specs.Taking.{take_t, drop_t}
use Rattle.matching.specs.Cells.{args_of, made, reads, from, term_at, Formed, Skipped, RestAt}
use Rattle.matching.proofs.TakeLaws.{count-drop}

pub args-functor : (ar : List ℕ) (c : ℕ) → c < 32768 → args_of ar c ≡ arity_at ar (c % 16384)
unfolding args_of
args-functor ar c h = ite-yes (dec_lt c 32768) _ _ h

pub args-var : (ar : List ℕ) (c : ℕ) → 32768 ≤ c → args_of ar c ≡ 0
unfolding args_of
args-var ar c h = ite-no (dec_lt c 32768) _ _ (λ l. omega arith)

pub made-functor : (c : ℕ) (ts : Terms) → c < 32768 → made c ts ≡ app c ts
unfolding made
made-functor c ts h = ite-yes (dec_lt c 32768) _ _ h

pub made-var : (c : ℕ) (ts : Terms) → 32768 ≤ c → made c ts ≡ var (c - 32768)
unfolding made
made-var c ts h = ite-no (dec_lt c 32768) _ _ (λ l. omega arith)

drop-pos : (n : ℕ) (ts : Terms) → count (drop_t n ts) ≤ count ts
drop-pos zero ts = omega arith
drop-pos (suc n) nil = omega arith
drop-pos (suc n) (cons t ts) = omega (arith, drop-pos n ts)

pub count-reads : (ar cs : List ℕ) → count (reads ar cs) ≤ length cs
unfolding reads
count-reads ar [] = omega arith
count-reads ar (c ∷ cs) = omega (arith, count-reads ar cs, drop-pos (args_of ar c) (reads ar cs))

-- the terms from p on, by their first cell
module _ (ar cells : List ℕ) (p : ℕ) where
  pub from_cell : p < length cells → from ar cells p ≡ cons (made (get_or cells p 0) (take_t (args_of ar (get_or cells p 0)) (from ar cells (suc p)))) (drop_t (args_of ar (get_or cells p 0)) (from ar cells (suc p)))
  unfolding reads
  from_cell h = ap (reads ar) (drop-cons cells p 0 h)

  -- where a term is, there are cells
  pub from-inside : 0 < count (from ar cells p) → p < length cells
  from-inside h = cases (dec_lt p (length cells))
    where
      cases : Dec (p < length cells) → p < length cells
      cases (yes l) = l
      cases (no n) = absurd (omega (arith, count-reads ar (drop p cells), length-drop p cells))

  pub from-pos : p < length cells → 0 < count (from ar cells p)
  from-pos h = rw (from_cell h) (omega arith)

  pub from_cons : p < length cells → from ar cells p ≡ cons (term_at ar cells p) (drop_t 1 (from ar cells p))
  from_cons h = rw (from_cell h) refl

  pub term_at-functor : p < length cells → get_or cells p 0 < 32768 → term_at ar cells p ≡ app (get_or cells p 0) (take_t (args_of ar (get_or cells p 0)) (from ar cells (suc p)))
  term_at-functor h l = rw (from_cell h) (made-functor (get_or cells p 0) _ l)

  pub term_at-var : p < length cells → 32768 ≤ get_or cells p 0 → term_at ar cells p ≡ var (get_or cells p 0 - 32768)
  term_at-var h l = rw (from_cell h) (made-var (get_or cells p 0) _ l)

-- no term, and a term with its arguments and then the others
pub skipped-none : {ar cells : List ℕ} {p k : ℕ} → p ≤ length cells → k ≡ 0 → Skipped ar cells p k p
skipped-none {k = zero} h e = record { inside = h; onward = omega arith; same = refl }
skipped-none {k = suc k} h e = absurd (omega arith)

module _ {ar cells : List ℕ} (f : Formed ar cells) (p k : ℕ) (some : k ≡ 0 → ⊥) (le : k ≤ count (from ar cells p)) where
  pub skipped-inside : p < length cells
  skipped-inside = from-inside ar cells p (omega arith)

  module _ {a : ℕ} (e : a ≡ args_of ar (get_or cells p 0)) where
    pub skipped-arguments : a ≤ count (from ar cells (p + 1))
    skipped-arguments = rw (e, add-one) (f.whole p skipped-inside)

    module _ {q : ℕ} (args : Skipped ar cells (p + 1) a q) where
      others-at : from ar cells p ≡ cons (term_at ar cells p) (from ar cells q)
      others-at = from_cons ar cells p skipped-inside ∙ ap (cons (term_at ar cells p)) (ap (drop_t 1) (from_cell ar cells p skipped-inside) ∙ rw (args.same, add-one, e))

      pub skipped-left : k - 1 ≤ count (from ar cells q)
      skipped-left = omega (arith, le, ap count others-at)

      pub skipped-then : {r : ℕ} → Skipped ar cells q (k - 1) r → Skipped ar cells p k r
      skipped-then {r} rest = record {
        inside = rest.inside;
        onward = omega (arith, args.onward, rest.onward);
        same = rest.same ∙ cases k some;
      }
        where
          cases : (m : ℕ) → (m ≡ 0 → ⊥) → drop_t (m - 1) (from ar cells q) ≡ drop_t m (from ar cells p)
          cases zero z = absurd (z refl)
          cases (suc m) z = let n : suc m - 1 ≡ m = omega arith in rw n (sym (ap (drop_t (suc m)) others-at))

-- the place after the first of k terms: where there is another, after skipping; else any
module _ {ar cells : List ℕ} {p r : ℕ} (k : ℕ) where
  pub next-skipped : k ≤ count (from ar cells p) → 1 < k → from ar cells r ≡ drop_t 1 (from ar cells p) → RestAt ar cells p k r
  next-skipped le h e = record { enough = rw e (omega (arith, count-drop 1 (from ar cells p) (omega arith))); same = rw e }

  pub next-none : k ≤ 1 → RestAt ar cells p k r
  next-none h = let e : k - 1 ≡ 0 = omega arith in record { enough = omega arith; same = rw e }
