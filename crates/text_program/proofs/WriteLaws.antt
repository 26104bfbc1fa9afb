-- What the writing program prints, answer by answer.
use Rattle.std.proofs.Common.{◌≡◌, ℕ, List, ◌++◌, length, drop, Result, Ok, Err, refl, ap, ◌∙◌, arith}
use Rattle.std.proofs.Math.Option.{Option}
use Rattle.rules.specs.Refusals.{Refusal, Checked, refused, accepted, and_then}
use Rattle.rules.specs.Program.{deck_file}
use Rattle.text_rules.specs.Text.{write_text}
use Rattle.text_rules.specs.TextProgram.{write_run, write_prints}
use Rattle.deck.specs.declared.Refusal.{Refusal as Why}
use Rattle.deck.specs.Answers.{refusal_for}
use Rattle.listing.specs.Printed.{Printed}
use Rattle.program_parts.specs.Answers.{Prints}
use Rattle.writing.specs.Writes.{result_of, bytes_of, text_after, Wrote}

-- The deck file.
pub write_run-unread : (file : Option (List ℕ)) (n : Refusal) → deck_file file ≡ refused n → write_run file ≡ refused n
unfolding write_run and_then
write_run-unread file n e = rw e

pub write_run-words : (file : Option (List ℕ)) (words : List ℕ) → deck_file file ≡ accepted words → write_run file ≡ write_text words 262144
unfolding write_run and_then
write_run-words file words e = rw e

-- The text, or the refusal.
as-printed :
    {printed before after : List ℕ} (text : List ℕ) (n : ℕ) → after ≡ text ++ drop (length text) before → n ≡ length text → text ≡ printed → Printed printed before n after
as-printed {before} text n l e p = record { number = e ∙ ap length p; bytes = l ∙ rw (e, ← p) refl }

bytes-refused : (x : Checked (List ℕ)) (n : Refusal) → refused n ≡ bytes_of x → x ≡ refused n
unfolding bytes_of
bytes-refused (refused m) n e = let q : m ≡ n = cc in ap refused q
bytes-refused (accepted text) n e = let z : ◌≡◌ {A = ℕ} 0 1 = cc in absurd (omega arith)

bytes-accepted : (x : Checked (List ℕ)) (n : ℕ) → accepted n ≡ bytes_of x → (text : List ℕ) × (x ≡ accepted text) × (n ≡ length text)
unfolding bytes_of
bytes-accepted (refused m) n e = let z : ◌≡◌ {A = ℕ} 0 1 = cc in absurd (omega arith)
bytes-accepted (accepted text) n e = let q : n ≡ length text = cc in (text, refl, q)

-- What is written is printed.
pub Wrote-prints : (words before : List ℕ) (r : Result ℕ Why) (after : List ℕ) → length before ≡ 262144 → Wrote words before (result_of r) after
    → Prints write_prints (write_text words 262144) before r after
unfolding write_prints text_after
Wrote-prints words before (Ok n) after room w =
    let t = bytes-accepted (write_text words (length before)) n w.returns in
    rw (← room, t.1) (as-printed t.0 n (w.leaves ∙ ap (λ x. text_after x before) t.1) t.2 refl)
Wrote-prints words before (Err why) after room w =
    let e = bytes-refused (write_text words (length before)) (refusal_for why) w.returns in
    rw (← room) (e, w.leaves ∙ ap (λ x. text_after x before) e)
