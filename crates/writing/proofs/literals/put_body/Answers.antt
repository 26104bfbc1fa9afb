-- Nothing, or ` :- `, the first literal and the others.
use Prim.Native.Nat.{ℕ}
use mathlib.Core.Path.{◌≡◌, ap, sym, ◌∙◌}
use mathlib.Core.List.{List, [], ◌∷◌, ◌++◌}
use Rattle.std.proofs.Common.{false-eqb}
use Rattle.std.proofs.lemmas.Bool.{eqb-true}
use lib.ListN.{length}
use Rattle.rules.specs.Syntax.{Literal}
use Rattle.text_rules.specs.TextWriter.{literal_text, literals_text, body_text}
use Rattle.listing.specs.declared.output.Output.{Output}
use Rattle.listing.proofs.PutLaws.{Left, adds_nothing, all_left, left-room, rest-room, put_some, put_last}
use Rattle.writing.proofs.TextParts.{body-parts, no_body}
use Rattle.writing.specs.Literals.{LiteralsAt}
use Rattle.writing.proofs.LiteralLaws.{Split, split, no_more}
use Rattle.writing.proofs.literals.put_body.Goals as goal

module _ {words row : List ℕ} (ls : List Literal) (a : LiteralsAt words row ls) (some : length row ≡ 0 → ⊥) where
  first : Split words row ls
  first = split words row ls a some

  body : (out : Output) → Left out (body_text ls []) out ((32 ∷ 58 ∷ 45 ∷ 32 ∷ []) ++ (literal_text first.first [] ++ literals_text first.others []))
  body out = all_left out (ap (λ (ms : List Literal). body_text ms []) first.same ∙ body-parts first.first first.others)

pub returns-then-is_empty : goal.returns-then-is_empty
returns-then-is_empty c = λ ls a. rw (no_more _ _ ls a (eqb-true _ 0 (sym c.is_empty.ensures ∙ c.if-is_empty.true)), no_body) (adds_nothing c.args.out.now)

pub put-requires : goal.put-requires
put-requires c = left-room (32 ∷ 58 ∷ 45 ∷ 32 ∷ []) _ (body c.requires.0 c.requires.1 (false-eqb _ 0 c.if-is_empty.ensures) c.args.out.now) c.requires.2

pub put_literal-requires : goal.put_literal-requires
put_literal-requires c =
    let n = first c.requires.0 c.requires.1 (false-eqb _ 0 c.if-is_empty.ensures) in
    let l = put_some (body c.requires.0 c.requires.1 (false-eqb _ 0 c.if-is_empty.ensures) c.args.out.now) c.put.ensures in
    (n.first, n.others, n.here, left-room (literal_text n.first []) _ l c.requires.2)

pub put_others-requires : goal.put_others-requires
put_others-requires c =
    let n = first c.requires.0 c.requires.1 (false-eqb _ 0 c.if-is_empty.ensures) in
    let w = c.put_literal.ensures n.first n.others n.here in
    let l = put_some (body c.requires.0 c.requires.1 (false-eqb _ 0 c.if-is_empty.ensures) c.args.out.now) c.put.ensures in
    (n.others, w.others, rest-room (put_some l w.adds) c.requires.2)

pub returns : goal.returns
returns c = λ ls a.
    let n = first ls a (false-eqb _ 0 c.if-is_empty.ensures) in
    let w = c.put_literal.ensures n.first n.others n.here in
    put_last (put_some (put_some (body ls a (false-eqb _ 0 c.if-is_empty.ensures) c.args.out.now) c.put.ensures) w.adds) (c.put_others.ensures n.others w.others)
