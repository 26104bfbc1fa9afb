-- What the program over levels prints, answer by answer. Assumes nothing.
use Rattle.std.proofs.Common.{◌≡◌, ℕ, List, ◌++◌, length, Option, Some, None, Result, Ok, Err, refl, sym, subst}
use Rattle.std.proofs.Math.Option as math
use Rattle.rules.specs.Refusals.{accepted, refused}
use Rattle.rules.specs.Listing.{listing}
use Rattle.rules.specs.Program.{deck_file, bytes_from}
use Rattle.deck.specs.declared.Refusal.{Refusal}
use Rattle.deck.specs.Answers.{refusal_for}
use Rattle.listing.specs.Printed.{Printed}
use Rattle.program_parts.specs.Answers.{PrintsOrRefuses}
use Rattle.ranks.specs.Answers.{levels_told, Answers}
use Rattle.ranks.proofs.AnswerLaws.{exact}
use Rattle.ranks_program.specs.LevelsProgram.{front, named_in, LevelsText, shown, LevelsPrinted, LevelsTold}

-- The words before the numbers are two, and their bytes come first.
pub front-length : (o : Option ℕ) → length (front o) ≡ 2
front-length None = refl
front-length (Some p) = refl

pub front-bytes : (o : Option ℕ) (ns : List ℕ) → bytes_from (front o ++ ns) ≡ bytes_from (front o) ++ bytes_from ns
unfolding bytes_from
front-bytes None ns = refl
front-bytes (Some p) ns = refl

named-told : (o : Option ℕ) → named_in (levels_told o) ≡ o
named-told None = refl
named-told (Some p) = refl

-- What the call for the deck's levels tells.
module _ (file : math.Option (List ℕ)) (words old new : List ℕ) (f : deck_file file ≡ accepted words) (size : length old ≡ 4096) where
  pub told-refused : (why : Refusal) → Answers words (Err why) old new → LevelsText file (listing (refused (refusal_for why)))
  told-refused why a = shown f size (exact words (Err why) old new size a)

  pub told-levels : (o : Option ℕ) (before : List ℕ) (n : ℕ) (after : List ℕ) → Answers words (Ok o) old new → Printed (bytes_from (front o ++ new)) before n after → LevelsPrinted file before n after
  told-levels o before n after a p = record {
    text = bytes_from (front (named_in (levels_told o)) ++ new);
    of = shown f size (exact words (Ok o) old new size a);
    printed = subst (λ (x : Option ℕ). Printed (bytes_from (front x ++ new)) before n after) (sym (named-told o)) p;
  }

-- The text, or the refusal's line in its place.
pub told-or-line : (file : math.Option (List ℕ)) (before : List ℕ) (r : Result ℕ Refusal) (mid : List ℕ) (m : ℕ) (after : List ℕ) → LevelsTold file before r mid
    → PrintsOrRefuses r mid m after → LevelsPrinted file before m after
told-or-line file before (Ok n) mid m after p q = rw (q.0, q.1) p
told-or-line file before (Err why) mid m after p q = record { text = listing (refused (refusal_for why)); of = p.0; printed = rw p.1 at q }
