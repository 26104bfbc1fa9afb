-- Five tokens or four, or no declaration.
use Rattle.std.proofs.Common.{refl, Some, subst}
use Rattle.text.specs.Steps.{IsKey}
use Rattle.text.specs.declared.grammar.Key.TheVariants as keys
use Rattle.text.proofs.ReadLaws.{token_of}
use Rattle.naming.specs.declared.declarations.Symbol.TheVariants as symbols
use Rattle.naming.proofs.ItemLaws.{key-is, no_key, no_name, for-arity, for-value, declared-here, number-here, function-symbol, predicate-symbol}
use Rattle.naming.proofs.declarations.item_at.Goals as goal
use Rattle.naming.proofs.declarations.item_at.Goals.{In_ok-key, In-Function, In-Predicate, In-Number}

-- The first token is that key.
keyed : (k : In_ok-key) → IsKey (token_of k.args.text.now k.next_token-first.result) (Some k.in_ok-key.key)
keyed k = let u = token_of k.args.text.now k.next_token-first.result in subst (IsKey u) k.in_ok-key.was (k.key_of.ensures u refl refl)

function-key : (k : In-Function) → IsKey (token_of k.args.text.now k.next_token-first.result) (Some keys.Function)
function-key k = let u = token_of k.args.text.now k.next_token-first.result in key-is u k.key_of.result k.in_ok-key.key keys.Function (k.key_of.ensures u refl refl) k.in_ok-key.was k.in-Function.is

predicate-key : (k : In-Predicate) → IsKey (token_of k.args.text.now k.next_token-first.result) (Some keys.Predicate)
predicate-key k = let u = token_of k.args.text.now k.next_token-first.result in key-is u k.key_of.result k.in_ok-key.key keys.Predicate (k.key_of.ensures u refl refl) k.in_ok-key.was k.in-Predicate.is

number-key : (k : In-Number) → IsKey (token_of k.args.text.now k.next_token-first.result) (Some keys.Number)
number-key k = let u = token_of k.args.text.now k.next_token-first.result in key-is u k.key_of.result k.in_ok-key.key keys.Number (k.key_of.ensures u refl refl) k.in_ok-key.was k.in-Number.is

pub returns-in_err-key : goal.returns-in_err-key
returns-in_err-key c =
    let text = c.args.text.now in
    let n = c.next_token-first in
    let u = token_of text n.result in
    rw c.from_residual.ensures (no_key text c.args.at n.result n.ensures (subst (IsKey u) c.in_err-key.was (c.key_of.ensures u refl refl)))

pub returns-in_default : goal.returns-in_default
returns-in_default c =
    let n = c.next_token-first in
    no_name c.args.text.now c.args.at n.result n.ensures c.in_ok-key.key (keyed (goal.at.returns-in_default c).In_ok-key) c.next_token-name.result c.next_token-name.ensures c.in_default.not-Name

pub arity_at-n-requires : goal.arity_at-n-requires
arity_at-n-requires c =
    let key = function-key (goal.at.arity_at-n-requires c).In-Function in (
      c.next_token-name.ensures.inside,
      for-arity c.args.text.now c.args.at c.next_token-first.result c.next_token-name.result c.next_token-first.ensures c.next_token-name.ensures c.requires.1 keys.Function key c.in-Name.is key.0,
    )

pub arity_at-n-requires-in-Predicate : goal.arity_at-n-requires-in-Predicate
arity_at-n-requires-in-Predicate c =
    let key = predicate-key (goal.at.arity_at-n-requires-in-Predicate c).In-Predicate in (
      c.next_token-name.ensures.inside,
      for-arity c.args.text.now c.args.at c.next_token-first.result c.next_token-name.result c.next_token-first.ensures c.next_token-name.ensures c.requires.1 keys.Predicate key c.in-Name.is key.0,
    )

pub value_at-n-requires-clause-numbers : goal.value_at-n-requires-clause-numbers
value_at-n-requires-clause-numbers c =
    let key = number-key (goal.at.value_at-n-requires-clause-numbers c).In-Number in
    (for-value c.args.text.now c.args.at c.next_token-first.result c.next_token-name.result c.next_token-first.ensures c.next_token-name.ensures c.requires.1 keys.Number key c.in-Name.is key.0 key.1).0

pub value_at-n-requires-clause-readable : goal.value_at-n-requires-clause-readable
value_at-n-requires-clause-readable c =
    let key = number-key (goal.at.value_at-n-requires-clause-readable c).In-Number in
    (for-value c.args.text.now c.args.at c.next_token-first.result c.next_token-name.result c.next_token-first.ensures c.next_token-name.ensures c.requires.1 keys.Number key c.in-Name.is key.0 key.1).1

pub returns-in-Function : goal.returns-in-Function
returns-in-Function c =
    let key = function-key (goal.at.returns-in-Function c).In-Function in
    let bytes = (token_of c.args.text.now c.next_token-first.result).bytes in
    let n = c.arity_at-n.result.number in
    rw c.of.ensures
    (declared-here c.args.text.now c.args.at c.next_token-first.result c.next_token-name.result c.next_token-first.ensures c.next_token-name.ensures c.requires.1 keys.Function key c.in-Name.is
    key.0 c.arity_at-n.result c.arity_at-n.ensures (symbols.Function n) (function-symbol bytes n key.1) refl refl)

pub returns-in-Predicate : goal.returns-in-Predicate
returns-in-Predicate c =
    let key = predicate-key (goal.at.returns-in-Predicate c).In-Predicate in
    let bytes = (token_of c.args.text.now c.next_token-first.result).bytes in
    let n = c.arity_at-n-in-Predicate.result.number in
    rw c.of-in-Predicate.ensures
    (declared-here c.args.text.now c.args.at c.next_token-first.result c.next_token-name.result c.next_token-first.ensures c.next_token-name.ensures c.requires.1 keys.Predicate key c.in-Name.is
    key.0 c.arity_at-n-in-Predicate.result c.arity_at-n-in-Predicate.ensures (symbols.Predicate n) (predicate-symbol bytes n key.1) refl refl)

pub returns-in-Number : goal.returns-in-Number
returns-in-Number c =
    let key = number-key (goal.at.returns-in-Number c).In-Number in
    rw c.of-in-Number.ensures
    (number-here c.args.text.now c.args.at c.next_token-first.result c.next_token-name.result c.next_token-first.ensures c.next_token-name.ensures c.requires.1 keys.Number key c.in-Name.is
    key.0 key.1 c.value_at-n.result c.value_at-n.ensures)
