-- Literals after commas.
use Prim.Native.Nat.{ℕ}
use mathlib.Core.Path.{◌≡◌, ap, sym, ◌∙◌}
use mathlib.Core.List.{List, [], ◌∷◌, ◌++◌}
use Rattle.std.proofs.Common.{false-eqb}
use Rattle.std.proofs.lemmas.Bool.{eqb-true}
use lib.ListN.{length}
use Rattle.rules.specs.Syntax.{Literal}
use Rattle.text_rules.specs.TextWriter.{literal_text, literals_text}
use Rattle.listing.specs.declared.output.Output.{Output}
use Rattle.listing.proofs.PutLaws.{Left, left-room, put_some, none_left}
use Rattle.writing.proofs.TextParts.{literals-parts, no-literals}
use Rattle.writing.proofs.LiteralLaws.{Split, split, no_more}
use Rattle.writing.proofs.literals.put_others.Invariants.{RowLeft}
use Rattle.writing.proofs.literals.put_others.Goals as goal

-- The next literal in front of the others.
module _ {words : List ℕ} {before : Output} {whole : List ℕ} {out : Output} {cells : List ℕ} (l : RowLeft words before whole out cells) (some : length cells ≡ 0 → ⊥) where
  next : Split words cells l.others
  next = split words cells l.others l.standing some

  spaced : Left before whole out ((44 ∷ 32 ∷ []) ++ (literal_text next.first [] ++ literals_text next.others []))
  spaced = rw (ap (λ (ls : List Literal). literals_text ls []) next.same ∙ literals-parts next.first next.others) at l.left

pub put-requires : goal.put-requires
put-requires c = left-room (44 ∷ 32 ∷ []) _ (spaced (c.loop-cells.invariant c.requires.0 c.requires.1) (false-eqb _ 0 c.loop-cells-test.ensures)) c.requires.2

pub put_literal-requires : goal.put_literal-requires
put_literal-requires c =
    let l = c.loop-cells.invariant c.requires.0 c.requires.1 in
    let n = next l (false-eqb _ 0 c.loop-cells-test.ensures) in
    (n.first, n.others, n.here, left-room (literal_text n.first []) _ (put_some (spaced l (false-eqb _ 0 c.loop-cells-test.ensures)) c.put.ensures) c.requires.2)

pub loop-cells-smaller : goal.loop-cells-smaller
loop-cells-smaller c =
    let n = next (c.loop-cells.invariant c.requires.0 c.requires.1) (false-eqb _ 0 c.loop-cells-test.ensures) in
    (c.put_literal.ensures n.first n.others n.here).forward

pub loop-cells-preserved : goal.loop-cells-preserved
loop-cells-preserved c = λ ls a.
    let l = c.loop-cells.invariant ls a in
    let n = next l (false-eqb _ 0 c.loop-cells-test.ensures) in
    let w = c.put_literal.ensures n.first n.others n.here in
    record { others = n.others; standing = w.others; left = put_some (put_some (spaced l (false-eqb _ 0 c.loop-cells-test.ensures)) c.put.ensures) w.adds }

pub returns : goal.returns
returns c = λ ls a.
    let l = c.loop-cells.invariant ls a in
    none_left (rw (no_more _ _ l.others l.standing (eqb-true _ 0 (sym c.is_empty.ensures ∙ c.loop-cells-test.false)), no-literals) at l.left)
