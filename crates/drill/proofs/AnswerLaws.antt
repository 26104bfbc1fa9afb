-- The rules' answer: the deck's refusal, refusal 19, or the terms after the given one.
use Prim.Native.Nat.{ℕ, ◌+◌, ◌≤◌}
use mathlib.Core.Path.{◌≡◌, refl, ap, sym, ◌∙◌, subst}
use mathlib.Core.Bool.{Bool, true, false}
use mathlib.Core.Option.{Option}
use mathlib.Core.List.{List}
use native.Mathlib.Omega.{arith}
use lib.ListN.{length, take, drop, length-map}
use lib.Dec.{leb}
use lib.Seq.{sets, sets-eq, take_at, take-length}
use borrow.Author.Tests.{leb-true, le-leb}
use Rattle.rules.specs.Syntax.{Symbol, Deck}
use Rattle.rules.specs.Refusals.{bad_drill, Checked, refused, accepted, and_then, require, obtain, checked_number}
use Rattle.rules.specs.Decks.{symbol_words, open_deck}
use Rattle.rules.specs.Drill.{drill_terms, after, fitting, drill, list_after}
use Rattle.rules.proofs.DeckLaws.{opened-written}
use Rattle.deck.specs.Answers.{number_of}
use Rattle.deck.specs.declared.Refusal.{Refusal as Why}
use Rattle.deck.specs.declared.Refusal.TheVariants.{Drill}
use Rattle.deck.specs.Kinds.{symbol_of, symbols_of}
use Rattle.deck.proofs.OpenLaws.{accepted-deck, accepted-symbols}
use Rattle.deck.proofs.RefusalLaws.{refused-number}
use Rattle.std.specs.Prelude.{Result, Ok, Err}
use Rattle.drill.specs.Answers.{Answers}
use Rattle.drill.specs.Successors.{rest_after, Given, Accepts}
use Rattle.drill.proofs.PastLaws.{after-given}

-- An opened deck has few symbols.
pub symbols-few : (ws : List ℕ) → checked_number (open_deck ws) ≡ 0 → length (symbol_words ws) ≤ 4096
unfolding symbols_of
symbols-few ws e =
    let d = accepted-deck ws e in
    omega (arith, (opened-written ws d.0 d.1).1.few_symbols, ap length (accepted-symbols ws d.0 d.1), length-map (symbol_words ws) symbol_of)

-- The given cells, copied to the start of others.
pub copied : (to given : List ℕ) → length given ≤ length to → take (length given) (sets to 0 (take (length given) given)) ≡ given
copied to given h =
    ap (λ l. take (length given) (sets to 0 l)) (take-length given)
    ∙ ap (take (length given)) (sets-eq given to 0 (omega arith))
    ∙ take_at given (drop (0 + length given) to) (length given) refl

-- What the call answers and leaves.
pub record Call (o : Checked (List (List ℕ))) (r : Result ℕ Why) (before out : List ℕ) : Type 0 where
  pub answer : Answers o r
  pub list : out ≡ list_after o before

module _ (ws : List ℕ) (n : ℕ) (given before : List ℕ) where
  abbrev pub result : Checked (List (List ℕ))
  result = drill ws n given (length before)

  pub refused-call : (why : Why) → number_of (Err why) ≡ checked_number (open_deck ws) → Call result (Err why) before before
  unfolding drill and_then list_after
  refused-call why e = go (open_deck ws) e
    where
      go :
          (o : Checked Deck) → number_of (Err why) ≡ checked_number o
          → Call (and_then o (λ d. and_then (require bad_drill (leb n 8)) (λ _. and_then (obtain bad_drill (after given (drill_terms d.symbols n))) (λ terms. accepted (fitting (length before) terms)))))
          (Err why) before before
      go (refused r) q = record { answer = q; list = refl }
      go (accepted d) q = absurd (refused-number why q)

  module _ (opens : checked_number (open_deck ws) ≡ 0) where
    abbrev S : List Symbol
    S = symbols_of (symbol_words ws)

    abbrev checked : Bool → Option (List (List ℕ)) → Checked (List (List ℕ))
    checked b o = and_then (require bad_drill b) (λ _. and_then (obtain bad_drill o) (λ terms. accepted (fitting (length before) terms)))

    opened : result ≡ checked (leb n 8) (after given (drill_terms S n))
    unfolding drill and_then
    opened = let d = accepted-deck ws opens in rw d.1 (rw (accepted-symbols ws d.0 d.1))

    pub refused-drill : Accepts S n given false → Call result (Err Drill) before before
    unfolding and_then require obtain list_after
    refused-drill h = subst (λ o. Call o (Err Drill) before before) (sym opened) (go (leb n 8) refl)
      where
        go : (b : Bool) → leb n 8 ≡ b → Call (checked b (after given (drill_terms S n))) (Err Drill) before before
        go false e = record { answer = refl; list = refl }
        go true e = subst (λ o. Call (checked true o) (Err Drill) before before) (sym (h (leb-true n 8 e))) (record { answer = refl; list = refl })

    pub written-call :
        (count : ℕ) (out : List ℕ) → Given S n given → count ≡ length (fitting (length before) (rest_after S n given))
        → out ≡ list_after (accepted (fitting (length before) (rest_after S n given))) before → Call result (Ok count) before out
    unfolding and_then require obtain
    written-call count out g c l =
        let o : result ≡ accepted (fitting (length before) (rest_after S n given)) = opened ∙ ap (λ b. checked b (after given (drill_terms S n))) (le-leb n 8 g.small) ∙ ap (checked true) (after-given S n given g) in
        subst (λ r. Call r (Ok count) before out) (sym o) (record { answer = c; list = l })
