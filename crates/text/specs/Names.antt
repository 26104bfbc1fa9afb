-- A table of a text's names, as its callers see it, and how it is kept.
use Rattle.std.specs.Prelude.{ℕ, ◌≤◌, ◌<◌, ◌≡◌, List, [], ◌∷◌, ◌++◌, Option, None, length, get_or, take, map}
use Rattle.std.specs.List.{slice_range}
use Rattle.text.specs.declared.names.Entry.{Entry}
use Rattle.text.specs.declared.names.Slot.{Slot}
use Rattle.text.specs.Hash.{hash_of, last_with, found_at, in_bucket}

-- A text, and the names entered, the first one first, each with its value.
pub record Table (V : Type 0) : Type 0 where
  pub text : List ℕ
  pub entries : List (Entry V)

abbrev pub empty_table : {V : Type 0} → List ℕ → Table V
empty_table text = record { text = text; entries = [] }

-- Entry j, where there are so many.
abbrev pub IsEntry : {V : Type 0} → Table V → ℕ → Entry V → Type 0
IsEntry {V} t j e = (d : Entry V) → e ≡ get_or t.entries j d

-- The same where the values are numbers.
abbrev pub no_entry : Entry ℕ
no_entry = record { from = 0; to = 0; value = 0 }

abbrev pub entry_at : Table ℕ → ℕ → Entry ℕ
entry_at t j = get_or t.entries j no_entry

abbrev pub bytes_of : {V : Type 0} → List ℕ → Entry V → List ℕ
bytes_of text e = slice_range text e.from e.to

-- The bytes of name j.
abbrev pub name_at : {V : Type 0} → Table V → ℕ → List ℕ
name_at t j = get_or (map (bytes_of t.text) t.entries) j []

abbrev pub entered : {V : Type 0} → Table V → Entry V → Table V
entered t e = record { text = t.text; entries = t.entries ++ e ∷ [] }

-- Slot j, where there are so many.
abbrev pub IsSlot : {V : Type 0} → List (Slot V) → ℕ → Slot V → Type 0
IsSlot {V} slots j s = (d : Slot V) → s ≡ get_or slots j d

-- The slots, of which the first n are taken.
abbrev pub the_table : {V : Type 0} → List ℕ → List (Slot V) → ℕ → Table V
the_table text slots n = record { text = text; entries = map (λ s. s.entry) (take n slots) }

abbrev pub slot_name : {V : Type 0} → List ℕ → List (Slot V) → ℕ → List ℕ
slot_name text slots j = get_or (map (λ s. bytes_of text s.entry) slots) j []

-- `heads` has the last name of each bucket, and a slot the one before it.
pub record Chained {V : Type 0} (N : ℕ) (text : List ℕ) (slots : List (Slot V)) (heads : List (Option ℕ)) (n : ℕ) : Type 0 where
  pub most : N ≤ 65535
  pub few : n ≤ N
  pub room : length slots ≡ N
  pub buckets : length heads ≡ 1021
  pub forward : (s : Slot V) (j : ℕ) → j < n → (get_or slots j s).entry.from ≤ (get_or slots j s).entry.to
  pub inside : (s : Slot V) (j : ℕ) → j < n → (get_or slots j s).entry.to ≤ length text
  pub head : (h : ℕ) → h < 1021 → get_or heads h None ≡ found_at (last_with (in_bucket h) (slot_name text slots) n)
  pub before : (s : Slot V) (j : ℕ) → j < n → (get_or slots j s).before ≡ found_at (last_with (in_bucket (hash_of 0 (slot_name text slots j))) (slot_name text slots) j)
