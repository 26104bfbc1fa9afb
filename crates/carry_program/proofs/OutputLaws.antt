-- Numbers written byte by byte, and the goals left as a file.
use Prim.Native.Nat.{ℕ, zero, suc, ◌+◌, ◌/◌, ◌%◌, ◌^◌, ◌≤◌}
use mathlib.Core.Path.{◌≡◌, refl, ap, sym, ◌∙◌, subst}
use mathlib.Core.Option.{some, some-injective}
use mathlib.Core.List.{List, ◌∷◌, ◌++◌}
use native.Mathlib.Omega.{arith}
use lib.ListN.{length, take, length-append}
use lib.Seq.{take_at}
use Rattle.rules.specs.Goals.{unmarked, write_goals, words_of, marked_words}
use Rattle.rules.specs.Stored.{OpenGoals, read_open}
use Rattle.rules.specs.Evaluation.{Outcome}
use Rattle.rules.specs.Run.{store_start}
use Rattle.rules.specs.Program.{bytes_from}
use Rattle.rules.specs.CarryProgram.{number_bytes, kept_goals}
use Rattle.rules.proofs.GoalLaws.{goals-length, marked_words-append, unmarked-words}
use Rattle.rules.proofs.StoredLaws.{open-reads}
use Rattle.stored.specs.Passing.{OpenFound}
use Rattle.std.specs.Prelude.{Some, None}
use Rattle.std.specs.Int.{to_le_bytes, bytes_low_first, byte_at}
use Rattle.std.proofs.Common.{w64}
use Rattle.std.proofs.Math.Nat.{div-div-eq-div-mul, pow-suc}
use Rattle.listing.specs.declared.output.Output.{Output}
use Rattle.listing.specs.Put.{Adds}
use Rattle.listing.proofs.PutLaws.{adds_then}
use Rattle.listing.proofs.ByteLaws.{bytes-length}
use Rattle.carry_program.specs.Finished.{goals_bytes, Counted}

-- A NUMBER byte by byte
number_bytes-from : (i k n : ℕ) → number_bytes k (n / 256 ^ i) ≡ bytes_low_first i k n
unfolding number_bytes
number_bytes-from i zero n = refl
number_bytes-from i (suc k) n =
    let next : n / 256 ^ i / 256 ≡ n / 256 ^ (suc i) = div-div-eq-div-mul n (256 ^ i) 256 ∙ ap (λ m. n / m) (sym (pow-suc 256 i)) in
    rw (next, at i) (ap (λ l. byte_at i n ∷ l) (number_bytes-from (suc i) k n))
  where
    at : (i : ℕ) → n / 256 ^ i % 256 ≡ byte_at i n
    at zero = let one : n / 1 ≡ n = omega arith in ap (λ m. m % 256) one
    at (suc i) = refl

pub to_le_bytes-number_bytes : (n : ℕ) → to_le_bytes w64 n ≡ number_bytes 8 n
to_le_bytes-number_bytes n = let one : n / 1 ≡ n = omega arith in sym (number_bytes-from 0 8 n) ∙ ap (number_bytes 8) one

pub number-length : (k n : ℕ) → length (number_bytes k n) ≡ k
unfolding number_bytes
number-length zero n = refl
number-length (suc k) n = ap suc (number-length k (n / 256))

-- WHERE THE GOALS END in the store
module _ {o : Outcome} {pending parked terms : ℕ} {deck_words store : List ℕ} (c : Counted o pending parked deck_words terms store) where
  abbrev opened : OpenGoals
  opened = record { pending = o.pending; parked = o.parked }

  reads : read_open c.2.deck.symbols pending parked terms store ≡ some opened
  reads = subst (λ (n : ℕ). read_open c.2.deck.symbols n parked terms store ≡ some opened) c.0
      (subst (λ (k : ℕ). read_open c.2.deck.symbols (length o.pending) k terms store ≡ some opened) c.1 c.2.reads)

  pub some-goals : OpenFound c.2.deck.symbols store pending parked terms None → ⊥
  some-goals e = absurd (let q = sym reads ∙ e in let z : ◌≡◌ {A = ℕ} 0 1 = cc in omega arith)

  pub goals-end : (middle end : ℕ) → OpenFound c.2.deck.symbols store pending parked terms (Some (middle, end)) → (end ≤ length store) × (take end store ≡ store_start o)
  unfolding store_start
  goals-end middle end f =
      let same : f.0 ≡ opened = some-injective f.0 opened (sym f.1 ∙ reads) in
      let w : middle ≡ words_of o.pending = f.2 ∙ ap (λ (g : OpenGoals). words_of g.pending) same in
      let m : end ≡ middle + marked_words o.parked = f.3 ∙ ap (λ (g : OpenGoals). middle + marked_words g.parked) same in
      let r = open-reads c.2.deck.symbols pending parked terms store opened reads in
      let ws = write_goals (unmarked o.pending ++ o.parked) in
      let size : length ws ≡ end =
      goals-length (unmarked o.pending ++ o.parked) ∙ omega (arith, w, m, marked_words-append (unmarked o.pending) o.parked, unmarked-words o.pending) in
      (f.4, ap (take end) r.written ∙ take_at ws r.rest end size)

  -- There is room for them.
  pub goals-room : length store ≤ 16384 → length (goals_bytes o terms) ≤ 32792
  unfolding kept_goals store_start
  goals-room h =
      let r = open-reads c.2.deck.symbols pending parked terms store opened reads in
      let ws = write_goals (unmarked o.pending ++ o.parked) in
      let x = number_bytes 8 (length o.pending) in
      let y = number_bytes 8 (length o.parked) in
      let z = number_bytes 8 terms in
      omega (arith, ap length r.written, length-append ws r.rest, bytes-length ws, length-append (x ++ y ++ z) (bytes_from ws), length-append (x ++ y) z, length-append x y, number-length 8 (length o.pending), number-length 8 (length o.parked), number-length 8 terms)

-- THE FILE: the three numbers and the words, put one after another.
pub file-adds : (o : Outcome) (pending parked terms : ℕ) {left first second third after : Output} (words : List ℕ) → length o.pending ≡ pending → length o.parked ≡ parked → words ≡ store_start o
    → Adds left (number_bytes 8 pending) first → Adds first (number_bytes 8 parked) second → Adds second (number_bytes 8 terms) third → Adds third (bytes_from words) after
    → Adds left (goals_bytes o terms) after
unfolding kept_goals
file-adds o pending parked terms words e f g p q r s = rw (e, f, ← g) (adds_then (adds_then (adds_then p q) r) s)
