-- The states of the grammar as the code has them.
use Rattle.std.specs.Prelude.{ℕ, ◌-◌, ◌≡◌, true, false, List, take, drop, Option, Some, None}
use Rattle.std.proofs.Math.Option as math
use Rattle.text_rules.specs.TextTokens as rules
use Rattle.text_rules.specs.TextGrammar.{is_key, is_number_key, same_bytes, fn_text, Part, head, body, item, keyed, declared, slashed, counted, number_keyed, number_declared, clause, literal, negated, finished, term, named, after, Follow, next}
use Rattle.text_rules.specs.TextGrammar as grammar
use Rattle.text.specs.declared.tokens.Kind.{Kind}
use Rattle.text.specs.declared.tokens.Token.{Token}
use Rattle.text.specs.declared.grammar.Part as code
use Rattle.text.specs.declared.grammar.Part.TheVariants.{Head, Body}
use Rattle.text.specs.declared.grammar.Key.{Key}
use Rattle.text.specs.declared.grammar.Key.TheVariants.{Function, Predicate, Number}
use Rattle.text.specs.declared.grammar.State.{State}
use Rattle.text.specs.declared.grammar.State.TheVariants.{Item, Keyed, Declared, Slashed, Counted, NumberKeyed, NumberDeclared, Clause, Literal, Negated, Finished, Term, Named, After}
use Rattle.text.specs.Kinds.{kind_of}

abbrev pub part_of : code.Part → Part
part_of Head = head
part_of Body = body

abbrev pub state_of : State → grammar.State
state_of (Item n) = item n
state_of (Keyed n) = keyed n
state_of (Declared n) = declared n
state_of (Slashed n) = slashed n
state_of (Counted n) = counted n
state_of NumberKeyed = number_keyed
state_of NumberDeclared = number_declared
state_of Clause = clause
state_of Literal = literal
state_of Negated = negated
state_of Finished = finished
state_of (Term p d) = term (part_of p) d
state_of (Named p d) = named (part_of p) d
state_of (After p d) = after (part_of p) d

abbrev pub depth_of : grammar.State → ℕ
depth_of (item n) = 0
depth_of (keyed n) = 0
depth_of (declared n) = 0
depth_of (slashed n) = 0
depth_of (counted n) = 0
depth_of number_keyed = 0
depth_of number_declared = 0
depth_of clause = 0
depth_of literal = 0
depth_of negated = 0
depth_of finished = 0
depth_of (term p d) = d
depth_of (named p d) = d
depth_of (after p d) = d

abbrev pub step_of : Option State → math.Option grammar.State
step_of (Some s) = math.some (state_of s)
step_of None = math.none

abbrev pub option_of : Option ℕ → math.Option ℕ
option_of (Some n) = math.some n
option_of None = math.none

-- What follows, of a token of that kind.
abbrev pub Says : List Follow → Kind → Option State → Type 0
Says fs kind r = (t : rules.Token) → t.kind ≡ kind_of kind → next fs t ≡ step_of r

-- The key that a token is, if it is one.
abbrev pub IsKey : rules.Token → Option Key → Type 0
IsKey u (Some Function) = (is_key u ≡ true) × (same_bytes u.bytes fn_text ≡ true)
IsKey u (Some Predicate) = (is_key u ≡ true) × (same_bytes u.bytes fn_text ≡ false)
IsKey u (Some Number) = (is_key u ≡ false) × (is_number_key u ≡ true)
IsKey u None = (is_key u ≡ false) × (is_number_key u ≡ false)

-- The same of a token of that kind and those bytes.
abbrev pub Keys : List ℕ → Token → Option Key → Type 0
Keys text t r = (u : rules.Token) → u.kind ≡ kind_of t.kind → u.bytes ≡ take (t.to - t.from) (drop t.from text) → IsKey u r
