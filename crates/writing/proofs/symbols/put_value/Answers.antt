-- A number, or a negative one.
use Prim.Native.Nat.{ℕ, ◌-◌, ◌≤◌, ◌<◌}
use mathlib.Core.Path.{◌≡◌, ap, subst}
use mathlib.Core.List.{List, [], ◌∷◌, ◌++◌}
use Rattle.rules.specs.Listing.{decimal}
use Rattle.text_rules.specs.TextWriter.{value_text}
use Rattle.listing.specs.Put.{Fits}
use Rattle.listing.proofs.PutLaws.{all_left, left-room, rest-room, put_some, put_last}
use Rattle.writing.proofs.TextParts.{value-small, value-negative}
use Rattle.writing.proofs.symbols.put_value.Goals as goal

small : (w : ℕ) → w < 32768 → 32 ∷ value_text w [] ≡ 32 ∷ decimal w []
small w h = ap {B = List ℕ} (32 ∷◌) (value-small w h)

negative : (w : ℕ) → 32768 ≤ w → 32 ∷ value_text w [] ≡ (32 ∷ []) ++ (45 ∷ decimal (65536 - w) [])
negative w h = ap {B = List ℕ} (32 ∷◌) (value-negative w h)

pub put_prefixed-requires : goal.put_prefixed-requires
put_prefixed-requires c = rw c.from.ensures (subst (Fits c.args.out.now) (small c.args.word c.if-word-lt32768.true) c.requires)

pub returns-then-word-lt32768 : goal.returns-then-word-lt32768
returns-then-word-lt32768 c = rw (small c.args.word c.if-word-lt32768.true) (rw c.from.ensures at c.put_prefixed.ensures)

pub put-requires : goal.put-requires
put-requires c = left-room (32 ∷ []) _ (all_left c.args.out.now (negative c.args.word c.if-word-lt32768.false)) c.requires

pub put_prefixed-requires-2 : goal.put_prefixed-requires-2
put_prefixed-requires-2 c = rw c.from-2.ensures (rest-room (put_some (all_left c.args.out.now (negative c.args.word c.if-word-lt32768.false)) c.put.ensures) c.requires)

pub returns : goal.returns
returns c = put_last (put_some (all_left c.args.out.now (negative c.args.word c.if-word-lt32768.false)) c.put.ensures) (rw c.from-2.ensures at c.put_prefixed-2.ensures)
