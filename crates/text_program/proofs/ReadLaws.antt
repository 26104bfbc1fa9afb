-- What the reading program prints, answer by answer.
use Prim.Native.Nat.{ℕ, ◌-◌, ◌≤◌, ◌<◌}
use mathlib.Core.Path.{◌≡◌, refl, ap, sym, ◌∙◌}
use mathlib.Core.Option.{Option, none, some}
use mathlib.Core.List.{List, ◌++◌}
use native.Mathlib.Omega.{arith}
use lib.ListN.{length, take, drop, length-append}
use lib.Seq.{take-append_seam}
use borrow.Author.Tests.{le-leb, lt-leb}
use Rattle.rules.specs.Refusals.{Refusal, no_room, Checked, refused, accepted}
use Rattle.rules.specs.Listing.{listing}
use Rattle.text_rules.specs.Text.{bad_left, place_of, bad_place, read_text}
use Rattle.rules.specs.Program.{bytes_from}
use Rattle.text_rules.specs.TextProgram.{place_line, read_prints, read_program}
use Rattle.deck.specs.declared.Refusal.{Refusal as Why}
use Rattle.deck.specs.Answers.{refusal_for}
use Rattle.std.specs.Prelude.{Ok, Err}
use Rattle.reading.specs.declared.ReadError.TheVariants.{Unreadable, Refused}
use Rattle.reading.specs.Reads.{count_of, DidRead}

-- A place stands in the text.
place-within : (text : List ℕ) (o : Option ℕ) (p : ℕ) → some p ≡ place_of text o → p ≤ length text
unfolding place_of
place-within text none p e = let z : ◌≡◌ {A = ℕ} 0 1 = cc in absurd (omega arith)
place-within text (some left) p e = let q : p ≡ length text - left = cc in omega (arith, q)

-- The rules' answer, by the number of words.
count-refused : (x : Checked (List ℕ)) (n : Refusal) → refused n ≡ count_of x → x ≡ refused n
unfolding count_of
count-refused (refused m) n e = let q : m ≡ n = cc in ap refused q
count-refused (accepted words) n e = let z : ◌≡◌ {A = ℕ} 0 1 = cc in absurd (omega arith)

count-accepted : (x : Checked (List ℕ)) (n : ℕ) → accepted n ≡ count_of x → (words : List ℕ) × (x ≡ accepted words) × (n ≡ length words)
unfolding count_of
count-accepted (refused m) n e = let z : ◌≡◌ {A = ℕ} 0 1 = cc in absurd (omega arith)
count-accepted (accepted words) n e = let q : n ≡ length words = cc in (words, refl, q)

-- Words at the start of a list.
front : (ws rest after : List ℕ) (n : ℕ) → after ≡ ws ++ rest → n ≡ length ws → (n ≤ length after) × (take n after ≡ ws)
front ws rest after n e f = (omega (arith, ap length e, length-append ws rest), rw (e, f) (take-append_seam ws rest))

module _ (text : List ℕ) where
  pub read_program-long : 262144 < length text → read_program text ≡ listing (refused no_room)
  unfolding read_program
  read_program-long h = rw (lt-leb (length text) 262144 h, read_program)

  module _ (before after : List ℕ) (room : length before ≡ 16384) (h : length text ≤ 262144) where
    prints : (o : Option ℕ) (x : Checked (List ℕ)) → o ≡ bad_place text → read_text text (length before) ≡ x → read_program text ≡ read_prints o x
    unfolding read_program
    prints o x e f = rw (le-leb (length text) 262144 h, read_program) (rw (e, ← f, room) refl)

    pub read_program-place : (place : ℕ) → DidRead text before (Err (Unreadable place)) after → read_program text ≡ place_line place
    unfolding read_prints
    read_program-place place d = prints (some place) (read_text text (length before)) d.place refl

    pub place-small : (place : ℕ) → DidRead text before (Err (Unreadable place)) after → place ≤ 262144
    unfolding bad_place
    place-small place d = omega (arith, place-within text (bad_left text) place d.place)

    pub read_program-refusal : (why : Why) → DidRead text before (Err (Refused why)) after → read_program text ≡ listing (refused (refusal_for why))
    unfolding read_prints
    read_program-refusal why d =
        prints none (refused (refusal_for why)) d.place (count-refused (read_text text (length before)) (refusal_for why) d.returns)

    -- The words that were read stand at the start of the list.
    pub words-stand : (n : ℕ) → DidRead text before (Ok n) after → (n ≤ length after) × (read_program text ≡ bytes_from (take n after))
    unfolding read_prints
    words-stand n d =
        let w = count-accepted (read_text text (length before)) n d.returns in
        let ws = w.0 in
        let f = front ws (drop (length ws) before) after n (d.written ws w.1) w.2 in
        (f.0, prints none (accepted ws) d.place w.1 ∙ ap bytes_from (sym f.1))
