-- The terms that a call has written, as trees whose cells stand in the list, and their lines.
use Prim.Native.Nat.{ℕ, suc, ◌*◌, ◌≤◌}
use mathlib.Core.Path.{◌≡◌, refl, ap, ap₂, sym, ◌∙◌, subst}
use mathlib.Core.Bool.{true}
use mathlib.Core.List.{List, [], ◌∷◌, ◌++◌}
use native.Mathlib.Omega.{arith}
use lib.ListN.{length, drop}
use Rattle.rules.specs.Terms.{Terms, nil, cons, count, sizes, vars_term, vars_terms}
use Rattle.rules.specs.Syntax.{Symbol}
use Rattle.rules.specs.Cells.{write_terms, read_row}
use Rattle.rules.specs.Refusals.{Checked, refused, accepted, and_then}
use Rattle.rules.specs.Decks.{header_fits, symbol_words}
use Rattle.rules.specs.WellFormed.{All, WfTerms}
use Rattle.rules.specs.Drill.{DrillTerm, drill, joined, list_after}
use Rattle.rules.specs.DrillProgram.{row_terms, print_lines, drill_prints}
use Rattle.rules.proofs.CellLaws.{Small, after-term, write-append, terms-length, read-row}
use Rattle.rules.proofs.DeckLaws.{steps-open}
use Rattle.deck.specs.Answers.{refusal_for}
use Rattle.deck.specs.declared.Refusal.{Refusal as Why}
use Rattle.deck.proofs.RefusalLaws.{number-injective}
use Rattle.drill.specs.Answers.{Answers}
use Rattle.std.specs.Prelude.{Result, Ok, Err}
use Rattle.drill.proofs.PublicDrill.{drill-accepted}
use Rattle.listing.specs.Put.{Put}
use Rattle.listing.specs.Printed.{Printed}
use Rattle.listing.specs.Standing.{TermsAt, show_term}
use Rattle.listing.proofs.PrintLaws.{term-short, first-shown}
use Rattle.listing.proofs.PrintedLaws.{put-printed}
use Rattle.drill_program.specs.Runs.{words_run}

-- The first line and the others.
pub lines-parts : (t : _) (ts : Terms) → print_lines (cons t ts) ≡ show_term 118 t [] ++ (10 ∷ print_lines ts)
lines-parts t ts = first-shown t (10 ∷ print_lines ts)

pub no_lines : (ts : Terms) → count ts ≡ 0 → ts ≡ nil
no_lines nil e = refl
no_lines (cons t ts) e = absurd (omega arith)

-- A cell takes at most 8 bytes.
lines-short : (S : List Symbol) (ts : Terms) → WfTerms S ts → All Small (vars_terms ts []) → length (print_lines ts) ≤ 8 * sizes ts
lines-short S nil w s = omega arith
lines-short S (cons t ts) w s =
    omega (arith, term-short S t (vars_terms ts []) (10 ∷ print_lines ts) w.0 s, lines-short S ts w.1 (after-term Small t (vars_terms ts []) s))

-- Drill terms as trees.
record Trees (S : List Symbol) (terms : List (List ℕ)) : Type 0 where
  trees : Terms
  written : joined terms ≡ write_terms trees []
  formed : WfTerms S trees
  ground : vars_terms trees [] ≡ []
  many : count trees ≡ length terms

trees-of : (S : List Symbol) (n : ℕ) (terms : List (List ℕ)) → All (DrillTerm S n) terms → Trees S terms
unfolding joined
trees-of S n [] a = record { trees = nil; written = refl; formed = tt; ground = refl; many = refl }
trees-of S n (t ∷ terms) a =
    let d = a.0 in
    let r = trees-of S n terms a.1 in
    record {
      trees = cons d.term r.trees;
      written = ap₂ ◌++◌ d.written r.written ∙ sym (write-append (cons d.term nil) (write_terms r.trees []));
      formed = (d.formed, r.formed);
      ground = ap (vars_term d.term) r.ground ∙ d.ground;
      many = ap suc r.many;
    }

-- The call has written these terms, and can be printed.
pub record Listed (ws : List ℕ) (n : ℕ) (given list : List ℕ) (number : ℕ) : Type 0 where
  pub trees : Terms
  pub run : words_run ws n given ≡ accepted trees
  pub standing : TermsAt (symbol_words ws) list trees
  pub many : count trees ≡ number
  pub short : length (print_lines trees) ≤ 32768
  pub fits : header_fits ws ≡ true

module _ (ws : List ℕ) (n : ℕ) (given : List ℕ) where
  of-terms : (before list : List ℕ) (terms : List (List ℕ)) → drill ws n given 4096 ≡ accepted terms → list ≡ joined terms ++ drop (length (joined terms)) before → Listed ws n given list (length terms)
  unfolding words_run and_then row_terms
  of-terms before list terms e l =
      let a = drill-accepted ws n given 4096 terms e in
      let S = a.deck.symbols in
      let t = trees-of S n terms a.members in
      let small : All Small (vars_terms t.trees []) = subst (All Small) (sym t.ground) tt in
      let read : read_row S (joined terms) ≡ _ = ap (read_row S) t.written ∙ read-row S t.trees [] t.formed tt small in
      record {
        trees = t.trees;
        run = rw (a.opens, e) (ap (λ x. accepted (row_terms x)) read);
        standing = record {
          symbols = S;
          rest = drop (length (joined terms)) before;
          read = (steps-open ws a.deck a.opens).symbols;
          written = l ∙ ap (◌++ drop (length (joined terms)) before) t.written ∙ sym (write-append t.trees (drop (length (joined terms)) before));
          formed = t.formed;
          small = small;
        };
        many = t.many;
        short = omega (arith, lines-short S t.trees t.formed small, terms-length t.trees [], ap length t.written, a.within);
        fits = (steps-open ws a.deck a.opens).fits;
      }

  -- The lent list has m words.
  module _ (m : ℕ) (room : m ≡ 4096) where
    pub list_done :
        (before list : List ℕ) (r : Result ℕ Why) (count : ℕ) → Answers (drill ws n given m) r → list ≡ list_after (drill ws n given m) before → r ≡ Ok count
        → Listed ws n given list count
    unfolding list_after
    list_done before list r count a l e = go (drill ws n given m) refl (subst (λ (x : Result ℕ Why). Answers (drill ws n given m) x) e a) l
      where
        go : (o : Checked (List (List ℕ))) → drill ws n given m ≡ o → Answers o (Ok count) → list ≡ list_after o before → Listed ws n given list count
        go (refused k) q z w = absurd z
        go (accepted terms) q z w = subst (Listed ws n given list) (sym z) (of-terms before list terms (subst (λ k. drill ws n given k ≡ accepted terms) room q) w)

    pub list-refused : (r : Result ℕ Why) (why : Why) → Answers (drill ws n given m) r → r ≡ Err why → drill ws n given 4096 ≡ refused (refusal_for why)
    list-refused r why a e = subst (λ k. drill ws n given k ≡ refused (refusal_for why)) room (go (drill ws n given m) (subst (λ (x : Result ℕ Why). Answers (drill ws n given m) x) e a))
      where
        go : (o : Checked (List (List ℕ))) → Answers o (Err why) → o ≡ refused (refusal_for why)
        go (refused k) z = ap refused (number-injective k (refusal_for why) (sym z))
        go (accepted terms) z = absurd z

pub lines-printed :
    {ws : List ℕ} {n : ℕ} {given list : List ℕ} {number : ℕ} {out : List ℕ} {end : ℕ} {after : List ℕ} (l : Listed ws n given list number) → Put out 0 (print_lines l.trees) end after
    → length out ≡ 32768 → Printed (drill_prints (words_run ws n given)) out end after
unfolding drill_prints
lines-printed l a h = rw l.run (put-printed a (omega (arith, l.short)))
