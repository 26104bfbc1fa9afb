-- The lines in front of the answers: the verdict's cases, the numbers in parts, and how long the lines are.
use Prim.Native.Nat.{ℕ, suc, ◌+◌, ◌*◌, ◌≤◌, ◌<◌}
use mathlib.Core.Path.{◌≡◌, refl, ap, sym, ◌∙◌}
use mathlib.Core.List.{List, [], ◌∷◌, ◌++◌, append_assoc}
use native.Mathlib.Omega.{arith}
use native.Mathlib.Numerals.{add-one}
use lib.ListN.{length, get_or, drop, length-append, drop_of_length-le}
use lib.Seq.{drop-cons}
use Rattle.rules.specs.WellFormed.{All}
use Rattle.rules.specs.Syntax.{Goal}
use Rattle.rules.specs.Goals.{Marked}
use Rattle.rules.specs.Evaluation.{finished, budget, answers, store, Outcome}
use Rattle.rules.specs.Listing.{decimal, no_text, all_text, open_text, verdict_text, stop_text, print_answers, listing}
use Rattle.rules.specs.Refusals.{accepted}
use Rattle.rules.specs.Evaluation as rules
use Rattle.rules.specs.Run as run
use Rattle.report.specs.Reports.{stop_of, report_of}
use Rattle.report.specs.declared.Report.{Report}
use Rattle.report.specs.declared.Stop.{Stop}
use Rattle.report.specs.declared.Stop.TheVariants.{Finished, Budget, Answers, Store}
use Rattle.listing.specs.Shown.{numbers_text, counts_text, head_text}
use Rattle.listing.proofs.DigitLaws.{decimal-append, decimal-length}

-- The verdict.
pub verdict-parked : (ms : List Marked) (gs : List Goal) → (length ms ≡ 0 → ⊥) → verdict_text finished ms gs ≡ open_text
unfolding verdict_text
verdict-parked [] gs h = absurd (h refl)
verdict-parked (m ∷ ms) gs h = refl

pub verdict-no : (ms : List Marked) (gs : List Goal) → length ms ≡ 0 → length gs ≡ 0 → verdict_text finished ms gs ≡ no_text
unfolding verdict_text
verdict-no [] [] e f = refl
verdict-no [] (g ∷ gs) e f = absurd (omega arith)
verdict-no (m ∷ ms) gs e f = absurd (omega arith)

pub verdict-all : (ms : List Marked) (gs : List Goal) → length ms ≡ 0 → (length gs ≡ 0 → ⊥) → verdict_text finished ms gs ≡ all_text
unfolding verdict_text
verdict-all [] [] e h = absurd (h refl)
verdict-all [] (g ∷ gs) e h = refl
verdict-all (m ∷ ms) gs e h = absurd (omega arith)

pub verdict-cut : (ms : List Marked) (gs : List Goal) (s : Stop) → (s ≡ Finished → ⊥) → verdict_text (stop_of s) ms gs ≡ open_text
unfolding verdict_text
verdict-cut ms gs Finished h = absurd (h refl)
verdict-cut ms gs Budget h = refl
verdict-cut ms gs Answers h = refl
verdict-cut ms gs Store h = refl

-- The numbers of the second line, one after another, and what follows them.
pub numbers-next : (ns : List ℕ) (i : ℕ) → i < length ns → numbers_text (drop i ns) ≡ (32 ∷ decimal (get_or ns i 0) []) ++ numbers_text (drop (i + 1) ns)
numbers-next ns i h =
    rw (add-one, drop-cons ns i 0 h) (ap {B = List ℕ} (λ x. 32 ∷ x) (decimal-append (get_or ns i 0) [] (numbers_text (drop (suc i) ns))))

pub numbers-end : (ns : List ℕ) (i : ℕ) → length ns ≤ i → numbers_text (drop i ns) ≡ 10 ∷ []
numbers-end ns i h = rw (drop_of_length-le ns {i = i} h) refl

numbers-length : (ns : List ℕ) → All (λ n. n < 4294967296) ns → length (numbers_text ns) ≤ 11 * length ns + 1
numbers-length [] a = omega arith
numbers-length (n ∷ ns) a =
    let l : n < 4294967296 = a.0 in
    omega (arith, ap length (decimal-append n [] (numbers_text ns)), length-append (decimal n []) (numbers_text ns), decimal-length 9 n (omega arith), numbers-length ns a.1)

number-before : (n : ℕ) (xs rest ys : List ℕ) → ys ≡ xs ++ rest → 32 ∷ decimal n ys ≡ (32 ∷ decimal n xs) ++ rest
number-before n xs rest ys e = ap {B = List ℕ} (λ x. 32 ∷ x) (ap (decimal n) e ∙ decimal-append n xs rest)

counts-before :
    (a b c d e : ℕ) (rest : List ℕ)
    → 32 ∷ decimal a (32 ∷ decimal b (32 ∷ decimal c (32 ∷ decimal d (32 ∷ decimal e (10 ∷ rest))))) ≡ counts_text a b c d e ++ rest
counts-before a b c d e rest = number-before a _ rest _ (number-before b _ rest _ (number-before c _ rest _ (number-before d _ rest _ (number-before e _ rest _ refl))))

-- Lengths.
pub verdict-length : (s : rules.Stop) (ms : List Marked) (gs : List Goal) → length (verdict_text s ms gs) ≤ 4
unfolding verdict_text no_text all_text open_text
verdict-length finished [] [] = omega arith
verdict-length finished [] (g ∷ gs) = omega arith
verdict-length finished (m ∷ ms) gs = omega arith
verdict-length budget ms gs = omega arith
verdict-length answers ms gs = omega arith
verdict-length store ms gs = omega arith

pub stop-length : (s : rules.Stop) → length (stop_text s) ≤ 8
unfolding stop_text
stop-length finished = omega arith
stop-length budget = omega arith
stop-length answers = omega arith
stop-length store = omega arith

pub counts-length :
    (a b c d e : ℕ) → a < 4294967296 → b < 4294967296 → c < 4294967296 → d < 4294967296 → e < 4294967296 → length (counts_text a b c d e) ≤ 56
counts-length a b c d e ha hb hc hd he = numbers-length (a ∷ b ∷ c ∷ d ∷ e ∷ []) (ha, (hb, (hc, (hd, (he, tt)))))

-- A listing is its first two lines and then the answers.
pub listing-parts : (o : Outcome) → listing (accepted o) ≡ head_text o ++ print_answers o.answers
unfolding listing
listing-parts o =
    rw (counts-before o.steps (length o.answers) (length o.pending) (length o.parked) o.cost (print_answers o.answers)) (simp append_assoc)

-- Of a report that an outcome has: its numbers, and the first two lines in parts.
module _ (r : Report) (o : Outcome) (e : report_of r ≡ run.report o) where
  pub same-answers : length o.answers ≡ r.answers
  unfolding run.report
  same-answers = ap (λ (x : run.Report). x.answers) (sym e)

  pub same-parked : length o.parked ≡ r.parked
  unfolding run.report
  same-parked = ap (λ (x : run.Report). x.parked) (sym e)

  pub head-parts :
      head_text o
      ≡ (verdict_text (stop_of r.stop) o.parked o.answers ++ (10 ∷ []))
      ++ (stop_text (stop_of r.stop) ++ counts_text r.steps r.answers r.pending r.parked r.cost)
  unfolding run.report
  head-parts =
      let s : stop_of r.stop ≡ o.stop = ap (λ (x : run.Report). x.stop) e in
      let n : r.steps ≡ o.steps = ap (λ (x : run.Report). x.steps) e in
      let p : r.pending ≡ length o.pending = ap (λ (x : run.Report). x.pending) e in
      let k : r.cost ≡ o.cost = ap (λ (x : run.Report). x.cost) e in
      rw (s, n, p, k, ← same-answers, ← same-parked) (simp append_assoc)
