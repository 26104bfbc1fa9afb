-- The arguments in brackets, counted for up to 4,096 pairs at a time.
use Rattle.std.specs.Prelude.{ℕ, suc, ◌+◌, ◌-◌, ◌≤◌, ◌<◌, ◌≡◌, true, false, ◌⊎◌, List, [], ◌∷◌, length, get_or, drop, min, eqb}
use Rattle.text_rules.specs.TextTokens.{Kind, opening, closing, comma, invalid, Token}
use Rattle.text_rules.specs.TextGrammar.{is}
use Rattle.text_rules.specs.TextWords.{commas}

-- Brackets and commas are bytes by themselves, in no other token.
abbrev pub mark_of : ℕ → Kind
mark_of b = elim (eqb b 40) [ true ↦ opening | false ↦ elim (eqb b 41) [ true ↦ closing | false ↦ elim (eqb b 44) [ true ↦ comma | false ↦ invalid ] ] ]

-- The number of arguments in each pair of brackets, in the order of their opening.
unfoldable pub in_brackets : List Token → List ℕ
in_brackets [] = []
in_brackets (t ∷ ts) = elim (is opening t) [ true ↦ suc (commas 0 ts) ∷ in_brackets ts | false ↦ in_brackets ts ]

-- A number as it is told: no arity is over 15, so 65,535 stands for what is more.
abbrev pub told : ℕ → ℕ
told k = min 65535 k

-- The list has the numbers of the first 4,096 pairs.
abbrev pub Given : List Token → List ℕ → Type 0
Given ts given = (i k : ℕ) (ks : List ℕ) → i < 4096 → drop i (in_brackets ts) ≡ k ∷ ks → get_or given i 0 ≡ told k

-- The numbers from place i on are those of the pairs of brackets among the tokens.
abbrev pub GivenFrom : List ℕ → ℕ → List Token → Type 0
GivenFrom given i ts = (j k : ℕ) (ks : List ℕ) → i + j < 4096 → drop j (in_brackets ts) ≡ k ∷ ks → get_or given (i + j) 0 ≡ told k

-- The number of a pair is known, or the pair is still open: its number stands in the row.
abbrev pub KnownOr : List ℕ → List ℕ → List ℕ → ℕ → Type 0
KnownOr all row given i = (get_or given i 0 ≡ told (get_or all i 0)) ⊎ ((j : ℕ) × (j < length row) × (get_or row j 0 ≡ i))

-- Of the pairs with the numbers `all`, those up to the tokens ts are met; of the open ones, in a row, the arguments that have begun are given.
pub record Counted (all : List ℕ) (at met inner : ℕ) (row given : List ℕ) (ts : List Token) : Type 0 where
  pub few : length row ≤ met
  pub most : met ≤ 4096
  pub in_given : length given ≡ 4096
  pub level : met < 4096 → inner ≡ 0
  pub shallow : inner ≤ at
  pub rest : met < 4096 → drop met all ≡ in_brackets ts
  pub owner : (j : ℕ) → j < length row → get_or row j 0 < met
  pub rising : (i j : ℕ) → i < j → j < length row → get_or row i 0 < get_or row j 0
  pub small : (i : ℕ) → i < met → get_or given i 0 ≤ 65535
  pub count : (j : ℕ) → j < length row → told (get_or given (get_or row j 0) 0 + commas (inner + (length row - suc j)) ts) ≡ told (get_or all (get_or row j 0) 0)
  pub known : (i : ℕ) → i < met → KnownOr all row given i
