-- Parts of a list of terms.
use Rattle.std.specs.Prelude.{ℕ, zero, suc, ◌≡◌}
use Rattle.std.proofs.Common.{refl, ap}
use Rattle.rules.specs.Terms.{Term, var, Terms, nil, cons, ◌+++◌, count}

-- The first n, and those after them.
abbrev pub take_t : ℕ → Terms → Terms
take_t zero ts = nil
take_t (suc n) nil = nil
take_t (suc n) (cons t ts) = cons t (take_t n ts)

abbrev pub drop_t : ℕ → Terms → Terms
drop_t zero ts = ts
drop_t (suc n) nil = nil
drop_t (suc n) (cons t ts) = drop_t n ts

-- The first; where there is none, any.
abbrev pub head_t : Terms → Term
head_t nil = var 0
head_t (cons t ts) = t

-- Of two lists one after the other, the first and the second.
pub take-join : (ts us : Terms) → take_t (count ts) (ts +++ us) ≡ ts
take-join nil us = refl
take-join (cons t ts) us = ap (cons t) (take-join ts us)

pub drop-join : (ts us : Terms) → drop_t (count ts) (ts +++ us) ≡ us
drop-join nil us = refl
drop-join (cons t ts) us = drop-join ts us
