-- The calls from C that read and write a deck as text, from what the public calls promise.
use Prim.Native.Nat.{ℕ}
use mathlib.Core.Path.{◌≡◌, refl, ap, sym, ◌∙◌, subst}
use mathlib.Core.List.{List}
use Rattle.rules.specs.Refusals.{bad_text, refusal_number, refused, accepted}
use Rattle.text_rules.specs.Text.{bad_place}
use Rattle.std.specs.Prelude.{Result, Ok, Err}
use Rattle.deck.specs.Answers.{refusal_for}
use Rattle.deck.specs.declared.Refusal.{Refusal}
use Rattle.reading.specs.Reads.{DidRead, place_in}
use Rattle.reading.specs.declared.ReadError.{ReadError}
use Rattle.reading.specs.declared.ReadError.TheVariants.{Unreadable, Refused}
use Rattle.writing.specs.Writes.{result_of, Wrote}
use Rattle.leads_c.specs.TextCalls.{place_or, ReadCalled, WriteCalled}

module _ {text deck : List ℕ} {r : Result ℕ ReadError} {after : List ℕ} (d : DidRead text deck r after) (words place : ℕ) where
  held : (x : Result ℕ ReadError) → r ≡ x → DidRead text deck x after
  held x e = subst (λ (y : Result ℕ ReadError). DidRead text deck y after) e d

  told : (x : Result ℕ ReadError) → r ≡ x → place_or place (place_in x) ≡ place_or place (bad_place text)
  told x e = ap (place_or place) (sym (ap place_in e) ∙ d.place)

  pub read_done : (n : ℕ) → r ≡ Ok n → ReadCalled text deck words place 0 after n place
  read_done n e = record { result = Ok n; read = held (Ok n) e; tells = (refl, refl); tells_place = told (Ok n) e }

  pub read-unreadable : (at n : ℕ) → r ≡ Err (Unreadable at) → n ≡ refusal_number bad_text → ReadCalled text deck words place n after words at
  read-unreadable at n e f = record { result = Err (Unreadable at); read = held (Err (Unreadable at)) e; tells = (f, refl); tells_place = told (Err (Unreadable at)) e }

  pub read-refused : (why : Refusal) (n : ℕ) → r ≡ Err (Refused why) → n ≡ refusal_number (refusal_for why) → ReadCalled text deck words place n after words place
  read-refused why n e f = record { result = Err (Refused why); read = held (Err (Refused why)) e; tells = (f, refl); tells_place = told (Err (Refused why)) e }

module _ {deck text : List ℕ} {r : Result ℕ Refusal} {after : List ℕ} (w : Wrote deck text (result_of r) after) (before : ℕ) where
  pub write-refused : (why : Refusal) (n : ℕ) → r ≡ Err why → n ≡ refusal_number (refusal_for why) → WriteCalled deck text before n after before
  write-refused why n e f = record {
    result = refused (refusal_for why);
    wrote = subst (λ (x : Result ℕ Refusal). Wrote deck text (result_of x) after) e w;
    tells = (f, refl);
  }

  pub write_done : (n : ℕ) → r ≡ Ok n → WriteCalled deck text before 0 after n
  write_done n e = record {
    result = accepted n;
    wrote = subst (λ (x : Result ℕ Refusal). Wrote deck text (result_of x) after) e w;
    tells = (refl, refl);
  }
