-- A member's list from a file.
use Prim.Native.Nat.{ℕ}
use mathlib.Core.Path.{◌≡◌, refl, ap, sym, ◌∙◌}
use mathlib.Core.Bool.{Bool, true, false, ◌&&◌}
use mathlib.Core.Option.{some, none}
use mathlib.Core.List.{List, []}
use native.Mathlib.Omega.{arith}
use borrow.Author.Tests.{le-leb}
use lib.Dec.{leb}
use lib.ListN.{length, replicate}
use Rattle.rules.specs.Program.{words_from, even}
use Rattle.rules.specs.CarryProgram.{bars_from}

pub bars-missing : (symbols : ℕ) → replicate symbols 0 ≡ bars_from symbols none
unfolding bars_from
bars-missing symbols = refl

-- The size's test.
abbrev pub bars_size : List ℕ → Bool
bars_size bytes = even bytes && (leb 0 (length bytes) && leb (length bytes) 8192)

same_size : (bytes : List ℕ) → bars_size bytes ≡ (even bytes && leb (length bytes) 8192)
same_size bytes = ap (λ (least : Bool). even bytes && (least && leb (length bytes) 8192)) (le-leb 0 (length bytes) (omega arith))

pub bars-unfit : (symbols : ℕ) (bytes : List ℕ) → bars_size bytes ≡ false → ◌≡◌ {A = List ℕ} [] (bars_from symbols (some bytes))
unfolding bars_from
bars-unfit symbols bytes e = rw (bars_from, sym (same_size bytes) ∙ e)

pub bars-fit : (symbols : ℕ) (bytes : List ℕ) → bars_size bytes ≡ true → words_from bytes ≡ bars_from symbols (some bytes)
unfolding bars_from
bars-fit symbols bytes e = rw (bars_from, sym (same_size bytes) ∙ e)
