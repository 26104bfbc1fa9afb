-- The walk over a goal's literals up to the selected one: each literal passed is negative and has a variable.
use Prim.Native.Nat.{ℕ, suc, ◌+◌, ◌-◌, ◌≤◌, ◌<◌}
use mathlib.Core.Path.{◌≡◌, refl, sym, ◌∙◌, ap, subst}
use mathlib.Core.Bool.{true, false}
use mathlib.Core.List.{List, [], ◌∷◌, ◌++◌, append_assoc}
use native.Mathlib.Omega.{arith}
use lib.ListN.{length, get_or, take, drop}
use Rattle.std.proofs.lemmas.List.{drop-take}
use Rattle.rules.specs.Terms.{Terms, nil, cons, size, sizes, vars_term, vars_terms}
use Rattle.rules.specs.Syntax.{Symbol, Literal, pos, neg, Goal, arguments}
use Rattle.rules.specs.Cells.{positive}
use Rattle.rules.specs.Resolution.{Selection, nothing, positive as chosen, negative as denied, ground, behind, select}
use Rattle.rules.specs.WellFormed.{WfLiterals}
use Rattle.rules.proofs.TermLaws.{size-pos}
use Rattle.rules.proofs.CellLaws.{literal_sizes, written_as}
use Rattle.rules.proofs.FormedLaws.{literals-size}
use Rattle.matching.specs.Taking.{drop_t}
use Rattle.matching.specs.Cells.{from, term_at}
use Rattle.matching.specs.Written.{Fits}
use Rattle.matching.proofs.CellLaws.{from_cons}
use Rattle.resolvents.specs.Variables.{variables_in, NoneOf}
use Rattle.resolvents.specs.Selecting.{GoalCells, Spans, Selects}
use Rattle.resolvents.specs.declared.select.Selected.TheVariants.{Nothing, Positive, Negative}
use Rattle.resolvents.proofs.CellTrees.{lit_term, lit_terms, literals-fit}
use Rattle.resolvents.proofs.RowLaws.{skipped, TermsStand, stands-room, stands_from, stands-slice, stands-first, stands-second, stands-cell, terms-variables, variables-none, goal-stands}

-- Literals in front of what is selected after them.
abbrev behinds : List Literal → Selection → Selection
behinds [] s = s
behinds (l ∷ ls) s = behind l (behinds ls s)

behinds-more : (ls : List Literal) (l : Literal) (s : Selection) → behinds ls (behind l s) ≡ behinds (ls ++ (l ∷ [])) s
behinds-more [] l s = refl
behinds-more (k ∷ ls) l s = ap (behind k) (behinds-more ls l s)

behinds-nothing : (ls : List Literal) → behinds ls nothing ≡ nothing
unfolding behind
behinds-nothing [] = refl
behinds-nothing (l ∷ ls) = ap (behind l) (behinds-nothing ls)

behinds-positive : (ls : List Literal) (p : ℕ) (ts : Terms) (after : List Literal) → behinds ls (chosen [] p ts after) ≡ chosen ls p ts after
unfolding behind
behinds-positive [] p ts after = refl
behinds-positive (l ∷ ls) p ts after = ap (behind l) (behinds-positive ls p ts after)

behinds-negative : (ls : List Literal) (p : ℕ) (ts : Terms) (after : List Literal) → behinds ls (denied [] p ts after) ≡ denied ls p ts after
unfolding behind
behinds-negative [] p ts after = refl
behinds-negative (l ∷ ls) p ts after = ap (behind l) (behinds-negative ls p ts after)

select-positive : (p : ℕ) (ts : Terms) (ls : List Literal) → select (pos p ts ∷ ls) ≡ chosen [] p ts ls
unfolding select
select-positive p ts ls = refl

select-ground : (p : ℕ) (ts : Terms) (ls : List Literal) → vars_terms ts [] ≡ [] → select (neg p ts ∷ ls) ≡ denied [] p ts ls
unfolding select ground
select-ground p ts ls e = rw (e, select)

select-behind : (p : ℕ) (ts : Terms) (ls : List Literal) → (vars_terms ts [] ≡ [] → ⊥) → select (neg p ts ∷ ls) ≡ behind (neg p ts) (select ls)
unfolding select ground
select-behind p ts ls n = go (vars_terms ts []) refl
  where
    go : (vs : List ℕ) → vars_terms ts [] ≡ vs → select (neg p ts ∷ ls) ≡ behind (neg p ts) (select ls)
    go [] e = absurd (n e)
    go (v ∷ vs) e = rw (e, select)

-- The literals `before` are passed, and the literals `after` stand from `at` on.
pub record Split (ar cells : List ℕ) (S : List Symbol) (g : Goal) (at : ℕ) (before after : List Literal) : Type 0 where
  pub split : g.literals ≡ before ++ after
  pub place : at ≡ sizes g.answer_terms + literal_sizes before
  pub stands : TermsStand cells at (lit_terms after) []
  pub well_formed : WfLiterals S after
  pub fits : Fits ar (lit_terms after)
  pub selects : select g.literals ≡ behinds before (select after)

pub record Passed (ar cells : List ℕ) (S : List Symbol) (g : Goal) (at : ℕ) : Type 0 where
  pub before : List Literal
  pub after : List Literal
  pub is : Split ar cells S g at before after

pub passed_none : {ar cells : List ℕ} {answer_cells : ℕ} {S : List Symbol} {g : Goal} → GoalCells ar cells answer_cells S g → Passed ar cells S g answer_cells
passed_none {ar} {cells} {answer_cells} {S} {g} h = record {
  before = [];
  after = g.literals;
  is = record {
    split = refl;
    place = h.wide ∙ omega arith;
    stands = stands-second g.answer_terms (lit_terms g.literals) (goal-stands h) answer_cells (h.wide ∙ omega arith);
    well_formed = h.well_formed.literals;
    fits = literals-fit ar S h.symbols g.literals h.well_formed.literals;
    selects = refl;
  };
}

-- Nothing is left.
pub passed-all : {ar cells : List ℕ} {S : List Symbol} {g : Goal} {at : ℕ} → Passed ar cells S g at → length cells ≤ at → Selects g (select g.literals) Nothing
unfolding select
passed-all {ar} {cells} {S} {g} {at} s l = go s.before s.after s.is
  where
    go : (before after : List Literal) → Split ar cells S g at before after → Selects g (select g.literals) Nothing
    go before [] d = rw (d.selects ∙ behinds-nothing before) tt
    go before (k ∷ after) d = absurd (omega (arith, stands-room d.stands, size-pos (lit_term k)))

lit-size : (l : Literal) → size (lit_term l) ≡ suc (sizes (arguments l))
lit-size (pos p ts) = refl
lit-size (neg p ts) = refl

lit-vars : (l : Literal) → vars_term (lit_term l) [] ≡ vars_terms (arguments l) []
lit-vars (pos p ts) = refl
lit-vars (neg p ts) = refl

-- What the walk over one literal finds.
pub record Walked (ar cells : List ℕ) (at end : ℕ) : Type 0 where
  pub inside : at < length cells
  pub within : end ≤ length cells
  pub next : from ar cells end ≡ drop_t 1 (from ar cells at)

pub walked_on : {ar cells : List ℕ} {at end : ℕ} → Walked ar cells at end → at < end
walked_on {ar} {cells} {at} {end} w =
    omega (arith, skipped ar cells at end (term_at ar cells at) (drop_t 1 (from ar cells at)) (omega (arith, w.inside)) w.within (from_cons ar cells at w.inside) w.next, size-pos (term_at ar cells at))

module _ {ar cells : List ℕ} {S : List Symbol} {g : Goal} {at end : ℕ} (w : Walked ar cells at end) where
  module _ {before : List Literal} {l : Literal} {after : List Literal} (d : Split ar cells S g at before (l ∷ after)) where
    ends : end ≡ at + size (lit_term l)
    ends = skipped ar cells at end (lit_term l) _ (omega (arith, w.inside)) w.within (stands_from d.stands ar d.fits) w.next

    span : Spans g.answer_terms before l at end
    span = record { start = d.place; end = ends ∙ ap (at +◌) (lit-size l) }

    -- The variables in its cells.
    found : variables_in (take (end - at) (drop at cells)) ≡ vars_terms (arguments l) []
    found =
        let n = sizes (cons (lit_term l) nil) in
        let e : end - at ≡ n = omega (arith, ends) in
        ap (λ k. variables_in (take k (drop at cells))) e
        ∙ ap variables_in (sym (drop-take at n cells) ∙ stands-slice (stands-first (cons (lit_term l) nil) (lit_terms after) d.stands))
        ∙ terms-variables ar (cons (lit_term l) nil) (d.fits.0, tt) []
        ∙ ap (vars_term (lit_term l)) variables-none
        ∙ lit-vars l

  -- A positive literal, a negative one without variables, and one with a variable.
  pub passed-positive : Passed ar cells S g at → get_or cells at 0 < 16384 → Selects g (select g.literals) (Positive at end)
  passed-positive s h = go s.before s.after s.is
    where
      go : (before after : List Literal) → Split ar cells S g at before after → Selects g (select g.literals) (Positive at end)
      go before [] d = absurd (omega (arith, stands-room d.stands, w.inside))
      go before (pos p ts ∷ after) d =
          subst (λ x. Selects g x (Positive at end)) (sym (d.selects ∙ ap (behinds before) (select-positive p ts after) ∙ behinds-positive before p ts after)) (span d)
      go before (neg p ts ∷ after) d = absurd (omega (arith, stands-cell d.stands))

  pub passed-negative : Passed ar cells S g at → 16384 ≤ get_or cells at 0 → NoneOf (variables_in (take (end - at) (drop at cells))) true → Selects g (select g.literals) (Negative at end)
  passed-negative s h n = go s.before s.after s.is
    where
      go : (before after : List Literal) → Split ar cells S g at before after → Selects g (select g.literals) (Negative at end)
      go before [] d = absurd (omega (arith, stands-room d.stands, w.inside))
      go before (pos p ts ∷ after) d = absurd (omega (arith, stands-cell d.stands, (written_as S p (positive p _) d.well_formed.0.0).1))
      go before (neg p ts ∷ after) d =
          subst (λ x. Selects g x (Negative at end)) (sym (d.selects ∙ ap (behinds before) (select-ground p ts after (sym (found d) ∙ n.if-so refl)) ∙ behinds-negative before p ts after)) (span d)

  pub passed-more : Passed ar cells S g at → 16384 ≤ get_or cells at 0 → NoneOf (variables_in (take (end - at) (drop at cells))) false → Passed ar cells S g end
  passed-more s h n = go s.before s.after s.is
    where
      go : (before after : List Literal) → Split ar cells S g at before after → Passed ar cells S g end
      go before [] d = absurd (omega (arith, stands-room d.stands, w.inside))
      go before (pos p ts ∷ after) d = absurd (omega (arith, stands-cell d.stands, (written_as S p (positive p _) d.well_formed.0.0).1))
      go before (neg p ts ∷ after) d = record {
        before = before ++ (neg p ts ∷ []);
        after = after;
        is = record {
          split = d.split ∙ sym (append_assoc before (neg p ts ∷ []) after);
          place = omega (arith, ends d, d.place, literals-size before (neg p ts ∷ []));
          stands = stands-second (cons (lit_term (neg p ts)) nil) (lit_terms after) d.stands end (ends d ∙ ap (at +◌) (omega arith));
          well_formed = d.well_formed.1;
          fits = d.fits.1;
          selects =
              d.selects ∙ ap (behinds before) (select-behind p ts after (λ e. n.if-not refl (found d ∙ e)))
              ∙ behinds-more before (neg p ts) (select after);
        };
      }
