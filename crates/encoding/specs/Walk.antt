-- The entries of a text's clauses, one after another.
use Rattle.std.specs.Prelude.{ℕ, ◌-◌, ◌≤◌, ◌<◌, ◌≡◌, List, [], ◌∷◌, Option, Some, None, length, drop, set}
use Rattle.std.specs.Iterator.{Count, at_most}
use Rattle.text_rules.specs.TextTokens.{Kind, name, dot, tilde, tokens}
use Rattle.text_rules.specs.TextWords.{Use, a_variable, a_head, a_negated, a_symbol, entries, starts_from}
use Rattle.text_rules.specs.TextWords as rules
use Rattle.encoding.specs.declared.walk.Entry.{Entry}
use Rattle.encoding.specs.declared.walk.Entry.TheVariants.{Variable, Head, Negated, Symbol}
use Rattle.encoding.specs.declared.walk.Place.{Place}
use Rattle.encoding.specs.declared.walk.Place.TheVariants.{Beginning, Negation, Inside}
use Rattle.encoding.specs.declared.walk.Entries.{Entries}
use Rattle.encoding.specs.declared.sizes.Sizes.{Sizes}

-- A kind of token that stands before such a place.
abbrev pub kind_before : Place → Kind
kind_before Beginning = dot
kind_before Negation = tilde
kind_before Inside = name

abbrev pub entries_left : Entries → List rules.Entry
entries_left w = entries (kind_before w.place) (tokens 0 (drop w.at w.text.now))

-- The code's entry is that of the rules.
abbrev pub IsEntry : Entry → rules.Entry → Type 0
IsEntry (Variable v) e = (v ≤ 1023) × (e ≡ a_variable v)
IsEntry (Head b) e = (u : Use) × (u.name ≡ b.now) × (e ≡ a_head u)
IsEntry (Negated b) e = (u : Use) × (u.name ≡ b.now) × (e ≡ a_negated u)
IsEntry (Symbol b) e = (u : Use) × (u.name ≡ b.now) × (e ≡ a_symbol u)

-- The first of some entries, if one is given, and the rest.
abbrev pub Gives : Option Entry → List rules.Entry → List rules.Entry → Type 0
Gives None all rest = all ≡ rest
Gives (Some given) all rest = (e : rules.Entry) × IsEntry given e × (all ≡ e ∷ rest)

abbrev pub Onward : Option Entry → Entries → Entries → Type 0
Onward None w v = entries_left w ≡ []
Onward (Some given) w v = Gives (Some given) (entries_left w) (entries_left v) × (w.at < v.at) × (v.at < 18446744073709551616)

-- The next entry, or the end.
pub record GivesEntry (w : Entries) (given : Option Entry) (v : Entries) : Type 0 where
  pub text : v.text ≡ w.text
  pub next : Onward given w v

abbrev pub places_left : Entries → Count
places_left w = at_most (length w.text.now - w.at)

-- A clause begins with its head.
abbrev pub heads : Entry → ℕ
heads (Variable v) = 0
heads (Head b) = 1
heads (Negated b) = 0
heads (Symbol b) = 0

pub record Sized (es : List rules.Entry) (r : Sizes) : Type 0 where
  pub clauses : r.clauses ≡ length (starts_from 0 es)
  pub cells : r.cells ≡ length es

-- A list with the start of a clause in it, if an entry begins one.
abbrev pub start_put : List ℕ → ℕ → ℕ → Entry → List ℕ
start_put starts i start (Variable v) = starts
start_put starts i start (Head b) = set starts i start
start_put starts i start (Negated b) = starts
start_put starts i start (Symbol b) = starts
