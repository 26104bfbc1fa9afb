-- Parts of a list of terms.
use mathlib.Core.Path.{◌≡◌, refl, ap}
use Prim.Native.Nat.{ℕ, zero, suc, ◌+◌, ◌≤◌}
use native.Mathlib.Omega.{arith}
use native.Mathlib.Nat.{zero-add, suc-add}
use Rattle.rules.specs.Terms.{Terms, nil, cons, count}
use Rattle.matching.specs.Taking.{take_t, drop_t}

pub count-take : (n : ℕ) (ts : Terms) → n ≤ count ts → count (take_t n ts) ≡ n
count-take zero ts h = refl
count-take (suc n) nil h = omega arith
count-take (suc n) (cons t ts) h = ap suc (count-take n ts (omega arith))

pub count-drop : (n : ℕ) (ts : Terms) → n ≤ count ts → n + count (drop_t n ts) ≡ count ts
count-drop zero ts h = omega arith
count-drop (suc n) nil h = omega arith
count-drop (suc n) (cons t ts) h = omega (arith, count-drop n ts (omega arith))

drop-none : (n : ℕ) → drop_t n nil ≡ nil
drop-none zero = refl
drop-none (suc n) = refl

pub drop_more : (m n : ℕ) (ts : Terms) → drop_t n (drop_t m ts) ≡ drop_t (m + n) ts
drop_more zero n ts = rw zero-add
drop_more (suc m) n nil = rw suc-add (drop-none n)
drop_more (suc m) n (cons t ts) = rw suc-add (drop_more m n ts)
