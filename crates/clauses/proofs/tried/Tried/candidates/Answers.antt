-- `candidates` meets its contract. Assumes nothing.
use Rattle.std.proofs.Common.{◌≡◌, Some, IfSome, length, ap, sym, ◌∙◌, subst, arith}
use Rattle.rules.specs.Syntax.{Deck}
use Rattle.rules.specs.Refusals.{accepted}
use Rattle.rules.specs.Decks.{open_deck}
use Rattle.rules.specs.Resolution.{clauses_about}
use Rattle.deck.proofs.OpenLaws.{accepted-deck}
use Rattle.clauses.specs.Rows.{RowsOf}
use Rattle.clauses.specs.declared.rows.Row.{Row}
use Rattle.clauses.specs.declared.tried.Tried.{Tried}
use Rattle.clauses.proofs.TriedLaws.{few-places, start-left}
use Rattle.clauses.proofs.tried.Tried.candidates.Goals as goal

-- The words of the row.
row-of : (s : Tried) (row : Row) → s.row ≡ Some row → (d : Deck) → open_deck s.clauses.deck.words.now ≡ accepted d → RowsOf (clauses_about s.p d.clauses) row.words.now
row-of s row e d o = subst (λ x. IfSome x (λ (r : Row). RowsOf (clauses_about s.p d.clauses) r.words.now)) e (s.rows_about d o)

pub ones-requires : goal.ones-requires
ones-requires c =
    let s = c.args.self.now in
    let d = accepted-deck s.clauses.deck.words.now s.clauses.deck.opens in
    omega (arith, (row-of s c.in_ok-row.row c.in_ok-row.was d.0 d.1).room, (s.numbers_about d.0 d.1).many, few-places s)

pub returns : goal.returns
returns c =
    let s = c.args.self.now in
    let row = c.in_ok-row.row in
    record {
      row = row;
      is = c.in_ok-row.was;
      many = λ d e. c.ones.ensures (clauses_about s.p d.clauses) (row-of s row c.in_ok-row.was d e) ∙ ap length (sym (start-left s d row c.in_ok-row.was c.requires));
    }
