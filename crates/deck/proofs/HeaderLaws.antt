-- A header that fits, fact by fact.
use mathlib.Core.Path.{◌≡◌, refl}
use mathlib.Core.Bool.{Bool, true, false}
use mathlib.Core.Logic.{◌⊎◌, inl, inr}
use mathlib.Core.List.{List}
use Prim.Native.Nat.{ℕ, ◌*◌, ◌≤◌}
use native.Mathlib.Omega.{arith}
use lib.ListN.{length, drop, length-drop}
use lib.Seq.{length-take-le}
use lib.Dec.{eqb}
use Rattle.rules.specs.Decks.{header, header_fits, symbol_room, symbol_part}
use Rattle.rules.proofs.DeckLaws.{Header, fit-facts}

pub header_facts : (ws : List ℕ) → header_fits ws ≡ true → Header ws
header_facts = fit-facts

-- A header does not fit, or these are its facts.
pub header_or_not : (ws : List ℕ) → (header_fits ws ≡ false) ⊎ Header ws
header_or_not ws = go (header_fits ws) refl
  where
    go : (b : Bool) → header_fits ws ≡ b → (header_fits ws ≡ false) ⊎ Header ws
    go true e = inr (fit-facts ws e)
    go false e = inl e

-- A symbol takes two words at most.
room-most : (f S : ℕ) → symbol_room f S ≤ 2 * S
unfolding symbol_room
room-most f S = go (eqb f 2) refl
  where
    go : (b : Bool) → eqb f 2 ≡ b → symbol_room f S ≤ 2 * S
    go true e = rw (e, symbol_room) (omega arith)
    go false e = rw (e, symbol_room) (omega arith)

pub part-short : (ws : List ℕ) → header_fits ws ≡ true → length (symbol_part ws) ≤ 8192
unfolding symbol_part
part-short ws e =
    let h = fit-facts ws e in
    let room = symbol_room (header ws 0) (header ws 1) in
    omega (arith, h.few_symbols, room-most (header ws 0) (header ws 1), length-take-le room (drop 8 ws) (omega (arith, h.end, h.whole, length-drop 8 ws)))
