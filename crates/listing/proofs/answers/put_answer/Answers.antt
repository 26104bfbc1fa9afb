-- An answer's line: the first term, the others after spaces, and the line's end; or `true`.
use mathlib.Core.Path.{◌≡◌, sym, ◌∙◌}
use mathlib.Core.List.{[], ◌∷◌, ◌++◌}
use lib.ListN.{length}
use Rattle.std.proofs.Common.{false-eqb}
use Rattle.std.proofs.lemmas.Bool.{eqb-true}
use Rattle.rules.specs.Listing.{true_text, print_spaced, print_answer}
use Rattle.rules.specs.Terms.{Terms, size, sizes}
use Rattle.listing.specs.Standing.{TermsAt, show_term, Walked}
use Rattle.listing.proofs.PutLaws.{Left, left-room, rest-room, put_some, put_last}
use Rattle.listing.proofs.StandLaws.{Split}
use Rattle.listing.proofs.RowLaws.{first, others, line, none}
use Rattle.listing.proofs.answers.put_answer.Goals as goal
use Rattle.listing.proofs.answers.put_answer.Goals.{After-put_term}

pub put-requires : goal.put-requires
unfolding print_answer true_text
put-requires c = let r = c.requires in rw (none r.0 r.1 r.2 (eqb-true _ 0 (sym c.is_empty.ensures ∙ c.if-is_empty.true))) at r.3

pub returns-then-is_empty : goal.returns-then-is_empty
unfolding print_answer true_text
returns-then-is_empty c = λ ts a e. rw (none ts a e (eqb-true _ 0 (sym c.is_empty.ensures ∙ c.if-is_empty.true))) c.put.ensures

pub put_term-requires : goal.put_term-requires
put_term-requires c =
    let r = c.requires in
    let n = first r.0 r.1 r.2 (false-eqb _ 0 c.if-is_empty.ensures) in
    (n.first, n.here, left-room (show_term 118 n.first []) _ (line r.0 r.1 r.2 (false-eqb _ 0 c.if-is_empty.ensures) c.args.out.now) r.3)

-- The first term printed, the row of the others, and what is left of the line.
module _ (c : After-put_term) (ts : Terms) (a : TermsAt c.args.symbols.now c.args.row.now ts) (e : length c.args.row.now ≡ sizes ts) where
  some : length c.args.row.now ≡ 0 → ⊥
  some = false-eqb _ 0 c.if-is_empty.ensures

  head : Split c.args.symbols.now c.args.row.now ts
  head = first ts a e some

  walk : Walked c.args.out.now c.args.row.now (show_term 118 head.first []) (size head.first) c.put_term.new.out c.put_term.new.cells.now
  walk = c.put_term.ensures head.first head.here

  rest : TermsAt c.args.symbols.now c.put_term.new.cells.now head.others × (length c.put_term.new.cells.now ≡ sizes head.others)
  unfolding head
  rest = others ts a e some walk.passed

  left : Left c.args.out.now (print_answer ts (10 ∷ [])) c.put_term.new.out (print_spaced head.others [] ++ (10 ∷ []))
  unfolding head
  left = put_some (line ts a e some c.args.out.now) walk.adds

pub put_spaced-requires : goal.put_spaced-requires
put_spaced-requires c =
    let r = c.requires in
    let p = (goal.at.put_spaced-requires c).After-put_term in
    let o = rest p r.0 r.1 r.2 in
    ((head p r.0 r.1 r.2).others, o.0, o.1, left-room (print_spaced (head p r.0 r.1 r.2).others []) _ (left p r.0 r.1 r.2) r.3)

pub put-requires-2 : goal.put-requires-2
put-requires-2 c =
    let r = c.requires in
    let p = (goal.at.put-requires-2 c).After-put_term in
    let o = rest p r.0 r.1 r.2 in
    rest-room (put_some (left p r.0 r.1 r.2) (c.put_spaced.ensures (head p r.0 r.1 r.2).others o.0 o.1)) r.3

pub returns : goal.returns
returns c = λ ts a e.
    let p = (goal.at.returns c).After-put_term in
    let o = rest p ts a e in
    put_last (put_some (left p ts a e) (c.put_spaced.ensures (head p ts a e).others o.0 o.1)) c.put-2.ensures
