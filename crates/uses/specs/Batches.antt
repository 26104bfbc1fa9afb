-- Names that are used, in batches: up to 4,096 of them in a table, each once, with the numbers of their arguments.
use Rattle.std.specs.Prelude.{ℕ, ◌+◌, ◌≤◌, ◌<◌, ◌≡◌, Bool, true, false, List, [], ◌∷◌, Option, Some, None, length, get_or, eqb}
use Rattle.std.specs.declared.ops.ControlFlow.{ControlFlow}
use Rattle.std.specs.declared.ops.ControlFlow.TheVariants.{Continue, Break}
use Rattle.std.proofs.Math.Option.{none, some}
use Rattle.text_rules.specs.TextGrammar.{same_bytes}
use Rattle.text_rules.specs.TextWords.{Declaration, arity}
use Rattle.text_rules.specs.Text.{place_of, text_declarations}
use Rattle.text.specs.Names.{Table, entry_at, name_at}
use Rattle.text.specs.Steps.{option_of}
use Rattle.uses.specs.declared.walk.Use.{Use}
use Rattle.uses.specs.Uses.{takes, misuse_from, UseFrom}

-- The arity of a name's first declaration, and whether it is that.
abbrev pub arity_in : List Declaration → List ℕ → Option ℕ
arity_in [] name = None
arity_in (d ∷ ds) name = elim (same_bytes name d.name) [ true ↦ Some (arity d.symbol) | false ↦ arity_in ds name ]

abbrev pub is_arity : Option ℕ → ℕ → Bool
is_arity None k = false
is_arity (Some a) k = eqb a k

abbrev pub Distinct : Table ℕ → Type 0
Distinct t = (i j : ℕ) → i < j → j < length t.entries → name_at t i ≡ name_at t j → ⊥

-- Whether name j is declared with its number of arguments.
abbrev pub takes_at : Table ℕ → ℕ → Bool
takes_at t j = takes (text_declarations t.text) (name_at t j) (entry_at t j).value

-- The names from `start` up to `at` are in the table: if all are declared so, the first misuse is looked for from `at` on,
-- else the first one that is not is the first misuse.
pub record Gathered (t : Table ℕ) (start at : ℕ) : Type 0 where
  pub few : length t.entries ≤ 4096
  pub distinct : Distinct t
  pub later : start + length t.entries ≤ at
  pub inside : at ≤ length t.text
  pub all : ((j : ℕ) → j < length t.entries → takes_at t j ≡ true) → misuse_from t.text start ≡ misuse_from t.text at
  pub first :
      (j : ℕ) → j < length t.entries → ((i : ℕ) → i < j → takes_at t i ≡ true) → takes_at t j ≡ false
      → place_of t.text (misuse_from t.text start) ≡ some (entry_at t j).from

-- The next use, if there is room for it.
pub record Noted (t : Table ℕ) (u : Use) (t' : Table ℕ) (r : Bool) : Type 0 where
  pub text : t'.text ≡ t.text
  pub more : r ≡ true → (start at : ℕ) → Gathered t start at → UseFrom t.text at u → Gathered t' start u.to
  pub full : r ≡ false → (t' ≡ t) × (0 < length t.entries)

-- Names that are gathered, and the place after them, if more may follow.
abbrev pub Gathers : Table ℕ → ℕ → Option ℕ → Type 0
Gathers t start (Some at) = Gathered t start at × (start < at)
Gathers t start None = (at : ℕ) × Gathered t start at × (misuse_from t.text at ≡ none)

-- An arity for a name, unless it has one.
pub record ArityGiven (found : List (Option ℕ)) (j : Option ℕ) (arity : ℕ) (found' : List (Option ℕ)) : Type 0 where
  pub here : (i : ℕ) → j ≡ Some i → get_or found i None ≡ None → get_or found' i None ≡ Some arity
  pub old : (i a : ℕ) → j ≡ Some i → get_or found i None ≡ Some a → get_or found' i None ≡ Some a
  pub other : (i : ℕ) → (j ≡ Some i → ⊥) → get_or found' i None ≡ get_or found i None

-- The first name that has another arity than it is given.
abbrev pub agrees_at : List (Option ℕ) → Table ℕ → ℕ → Bool
agrees_at found t i = is_arity (get_or found i None) (entry_at t i).value

abbrev pub FirstOther : List (Option ℕ) → Table ℕ → Option ℕ → Type 0
FirstOther found t None = (i : ℕ) → i < length t.entries → agrees_at found t i ≡ true
FirstOther found t (Some r) = (r < length t.entries) × (agrees_at found t r ≡ false) × ((i : ℕ) → i < r → agrees_at found t i ≡ true)

-- What is seen of the uses from a place on: the first misuse, or that there is none; or a later place that it is to be looked for from.
abbrev pub Sees : List ℕ → ℕ → ControlFlow (Option ℕ) ℕ → Type 0
Sees text start (Break place) = place_of text (misuse_from text start) ≡ option_of place
Sees text start (Continue p) = (start < p) × (p ≤ length text) × (misuse_from text start ≡ misuse_from text p)
