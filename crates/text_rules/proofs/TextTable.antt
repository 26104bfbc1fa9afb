-- Texts and what they are read as (document 02, U1 and U10), shown about the written rules by computing them.
use Prim.Native.Nat.{ℕ, zero, suc}
use mathlib.Core.Path.{◌≡◌, refl}
use mathlib.Core.List.{List, [], ◌∷◌, map}
use mathlib.Core.Option.{Option, none, some}
use lib.ListN.{length}
use Rattle.rules.specs.Refusals.{bad_header, bad_symbol, long_clause, bad_clause, bad_text, no_room, Checked, refused, accepted}
use Rattle.text_rules.specs.Text.{read_text, write_text, bad_place}
use Rattle.text_rules.specs.All.{rules}
use Rattle.rules.proofs.Table.{deck_l}

-- A text, the length of the lent list, what reading gives, and the place of refusal 10.
pub record TextCase : Type 0 where
  pub text : List ℕ
  pub room : ℕ
  pub expected : Checked (List ℕ)
  pub place : Option ℕ

abbrev case : List ℕ → ℕ → Checked (List ℕ) → Option ℕ → TextCase
case text room expected place = record { text = text; room = room; expected = expected; place = place }

-- Texts that are read.
abbrev pub read : List TextCase
read =
    -- The request's own items. pr end/1.\npr drawn/1.\nfn a/0.\npr lead/1.\nlead(_0) :- end(_0), ~drawn(_0).\n
    case (112 ∷ 114 ∷ 32 ∷ 101 ∷ 110 ∷ 100 ∷ 47 ∷ 49 ∷ 46 ∷ 10 ∷ 112 ∷ 114 ∷ 32 ∷ 100 ∷ 114 ∷ 97 ∷ 119 ∷ 110 ∷ 47 ∷ 49 ∷ 46 ∷ 10 ∷ 102 ∷ 110 ∷ 32 ∷ 97 ∷ 47 ∷ 48 ∷ 46 ∷ 10 ∷ 112 ∷ 114 ∷ 32 ∷ 108 ∷ 101 ∷ 97 ∷ 100 ∷ 47 ∷ 49 ∷ 46 ∷ 10 ∷ 108 ∷ 101 ∷ 97 ∷ 100 ∷ 40 ∷ 95 ∷ 48 ∷ 41 ∷ 32 ∷ 58 ∷ 45 ∷ 32 ∷ 101 ∷ 110 ∷ 100 ∷ 40 ∷ 95 ∷ 48 ∷ 41 ∷ 44 ∷ 32 ∷ 126 ∷ 100 ∷ 114 ∷ 97 ∷ 119 ∷ 110 ∷ 40 ∷ 95 ∷ 48 ∷ 41 ∷ 46 ∷ 10 ∷ []) 19 (accepted (1 ∷ 4 ∷ 8 ∷ 1 ∷ 12 ∷ 6 ∷ 13 ∷ 19 ∷ 257 ∷ 257 ∷ 0 ∷ 257 ∷ 0 ∷ 3 ∷ 32768 ∷ 0 ∷ 32768 ∷ 16385 ∷ 32768 ∷ [])) none
    -- The same on one line, spaced where it may be, and nothing spaced that need not be. fn a / (0).pr p/2.p ( a,\n_0 ).
    ∷ case (102 ∷ 110 ∷ 32 ∷ 97 ∷ 32 ∷ 47 ∷ 32 ∷ 48 ∷ 32 ∷ 46 ∷ 112 ∷ 114 ∷ 32 ∷ 112 ∷ 47 ∷ 50 ∷ 46 ∷ 112 ∷ 32 ∷ 40 ∷ 32 ∷ 97 ∷ 44 ∷ 10 ∷ 95 ∷ 48 ∷ 32 ∷ 41 ∷ 46 ∷ []) 100 (accepted (1 ∷ 2 ∷ 8 ∷ 1 ∷ 10 ∷ 3 ∷ 11 ∷ 14 ∷ 0 ∷ 258 ∷ 0 ∷ 1 ∷ 0 ∷ 32768 ∷ [])) none
    -- `fn` and `pr` are names. fn fn/0.pr pr/1.pr(fn).
    ∷ case (102 ∷ 110 ∷ 32 ∷ 102 ∷ 110 ∷ 47 ∷ 48 ∷ 46 ∷ 112 ∷ 114 ∷ 32 ∷ 112 ∷ 114 ∷ 47 ∷ 49 ∷ 46 ∷ 112 ∷ 114 ∷ 40 ∷ 102 ∷ 110 ∷ 41 ∷ 46 ∷ []) 100 (accepted (1 ∷ 2 ∷ 8 ∷ 1 ∷ 10 ∷ 2 ∷ 11 ∷ 13 ∷ 0 ∷ 257 ∷ 0 ∷ 1 ∷ 0 ∷ [])) none
    -- Nested terms. fn f/2.fn c/0.pr p/1.p(f(f(c,_0),c)).
    ∷ case (102 ∷ 110 ∷ 32 ∷ 102 ∷ 47 ∷ 50 ∷ 46 ∷ 102 ∷ 110 ∷ 32 ∷ 99 ∷ 47 ∷ 48 ∷ 46 ∷ 112 ∷ 114 ∷ 32 ∷ 112 ∷ 47 ∷ 49 ∷ 46 ∷ 112 ∷ 40 ∷ 102 ∷ 40 ∷ 102 ∷ 40 ∷ 99 ∷ 44 ∷ 95 ∷ 48 ∷ 41 ∷ 44 ∷ 99 ∷ 41 ∷ 41 ∷ 46 ∷ []) 100 (accepted (1 ∷ 3 ∷ 8 ∷ 1 ∷ 11 ∷ 6 ∷ 12 ∷ 18 ∷ 2 ∷ 0 ∷ 257 ∷ 0 ∷ 2 ∷ 0 ∷ 0 ∷ 1 ∷ 32768 ∷ 1 ∷ [])) none
    -- A name of 16 bytes. pr a23456789012345z/0.a23456789012345z.
    ∷ case (112 ∷ 114 ∷ 32 ∷ 97 ∷ 50 ∷ 51 ∷ 52 ∷ 53 ∷ 54 ∷ 55 ∷ 56 ∷ 57 ∷ 48 ∷ 49 ∷ 50 ∷ 51 ∷ 52 ∷ 53 ∷ 122 ∷ 47 ∷ 48 ∷ 46 ∷ 97 ∷ 50 ∷ 51 ∷ 52 ∷ 53 ∷ 54 ∷ 55 ∷ 56 ∷ 57 ∷ 48 ∷ 49 ∷ 50 ∷ 51 ∷ 52 ∷ 53 ∷ 122 ∷ 46 ∷ []) 100 (accepted (1 ∷ 1 ∷ 8 ∷ 1 ∷ 9 ∷ 1 ∷ 10 ∷ 11 ∷ 256 ∷ 0 ∷ 0 ∷ [])) none
    -- The request's number. v2.\nnu n1 -35.\npr p/1.\np(n1).\n
    ∷ case (118 ∷ 50 ∷ 46 ∷ 10 ∷ 110 ∷ 117 ∷ 32 ∷ 110 ∷ 49 ∷ 32 ∷ 45 ∷ 51 ∷ 53 ∷ 46 ∷ 10 ∷ 112 ∷ 114 ∷ 32 ∷ 112 ∷ 47 ∷ 49 ∷ 46 ∷ 10 ∷ 112 ∷ 40 ∷ 110 ∷ 49 ∷ 41 ∷ 46 ∷ 10 ∷ []) 100 (accepted (2 ∷ 2 ∷ 8 ∷ 1 ∷ 12 ∷ 2 ∷ 13 ∷ 15 ∷ 512 ∷ 65501 ∷ 257 ∷ 0 ∷ 0 ∷ 1 ∷ 0 ∷ [])) none
    -- Format 2 without numbers; spacing before and in `v2.`. \n v2 .fn a/0.
    ∷ case (10 ∷ 32 ∷ 118 ∷ 50 ∷ 32 ∷ 46 ∷ 102 ∷ 110 ∷ 32 ∷ 97 ∷ 47 ∷ 48 ∷ 46 ∷ []) 100 (accepted (2 ∷ 1 ∷ 8 ∷ 0 ∷ 10 ∷ 0 ∷ 10 ∷ 10 ∷ 0 ∷ 0 ∷ [])) none
    -- The greatest and the least value, 0 and 16, and no space where none is needed. v2.nu a-32768.nu b 32767.nu c 0.nu d 16.
    ∷ case (118 ∷ 50 ∷ 46 ∷ 110 ∷ 117 ∷ 32 ∷ 97 ∷ 45 ∷ 51 ∷ 50 ∷ 55 ∷ 54 ∷ 56 ∷ 46 ∷ 110 ∷ 117 ∷ 32 ∷ 98 ∷ 32 ∷ 51 ∷ 50 ∷ 55 ∷ 54 ∷ 55 ∷ 46 ∷ 110 ∷ 117 ∷ 32 ∷ 99 ∷ 32 ∷ 48 ∷ 46 ∷ 110 ∷ 117 ∷ 32 ∷ 100 ∷ 32 ∷ 49 ∷ 54 ∷ 46 ∷ []) 100 (accepted (2 ∷ 4 ∷ 8 ∷ 0 ∷ 16 ∷ 0 ∷ 16 ∷ 16 ∷ 512 ∷ 32768 ∷ 512 ∷ 32767 ∷ 512 ∷ 0 ∷ 512 ∷ 16 ∷ [])) none
    -- Among other declarations, in any order. v2.fn f/1.nu n-1.pr p/2.nu m 5.p(f(n),m).
    ∷ case (118 ∷ 50 ∷ 46 ∷ 102 ∷ 110 ∷ 32 ∷ 102 ∷ 47 ∷ 49 ∷ 46 ∷ 110 ∷ 117 ∷ 32 ∷ 110 ∷ 45 ∷ 49 ∷ 46 ∷ 112 ∷ 114 ∷ 32 ∷ 112 ∷ 47 ∷ 50 ∷ 46 ∷ 110 ∷ 117 ∷ 32 ∷ 109 ∷ 32 ∷ 53 ∷ 46 ∷ 112 ∷ 40 ∷ 102 ∷ 40 ∷ 110 ∷ 41 ∷ 44 ∷ 109 ∷ 41 ∷ 46 ∷ []) 100 (accepted (2 ∷ 4 ∷ 8 ∷ 1 ∷ 16 ∷ 4 ∷ 17 ∷ 21 ∷ 1 ∷ 0 ∷ 512 ∷ 65535 ∷ 258 ∷ 0 ∷ 512 ∷ 5 ∷ 0 ∷ 2 ∷ 0 ∷ 1 ∷ 3 ∷ [])) none
    -- After a name of 16 bytes a digit begins the number. v2.nu abcdefghijklmnop5.
    ∷ case (118 ∷ 50 ∷ 46 ∷ 110 ∷ 117 ∷ 32 ∷ 97 ∷ 98 ∷ 99 ∷ 100 ∷ 101 ∷ 102 ∷ 103 ∷ 104 ∷ 105 ∷ 106 ∷ 107 ∷ 108 ∷ 109 ∷ 110 ∷ 111 ∷ 112 ∷ 53 ∷ 46 ∷ []) 100 (accepted (2 ∷ 1 ∷ 8 ∷ 0 ∷ 10 ∷ 0 ∷ 10 ∷ 10 ∷ 512 ∷ 5 ∷ [])) none
    -- `nu` and `v2` are names. v2.fn nu/0.nu v2 7.pr p/2.p(nu,v2).
    ∷ case (118 ∷ 50 ∷ 46 ∷ 102 ∷ 110 ∷ 32 ∷ 110 ∷ 117 ∷ 47 ∷ 48 ∷ 46 ∷ 110 ∷ 117 ∷ 32 ∷ 118 ∷ 50 ∷ 32 ∷ 55 ∷ 46 ∷ 112 ∷ 114 ∷ 32 ∷ 112 ∷ 47 ∷ 50 ∷ 46 ∷ 112 ∷ 40 ∷ 110 ∷ 117 ∷ 44 ∷ 118 ∷ 50 ∷ 41 ∷ 46 ∷ []) 100 (accepted (2 ∷ 3 ∷ 8 ∷ 1 ∷ 14 ∷ 3 ∷ 15 ∷ 18 ∷ 0 ∷ 0 ∷ 512 ∷ 7 ∷ 258 ∷ 0 ∷ 0 ∷ 2 ∷ 0 ∷ 1 ∷ [])) none
    -- So they are in format 1. pr nu/1.fn v2/0.nu(v2).
    ∷ case (112 ∷ 114 ∷ 32 ∷ 110 ∷ 117 ∷ 47 ∷ 49 ∷ 46 ∷ 102 ∷ 110 ∷ 32 ∷ 118 ∷ 50 ∷ 47 ∷ 48 ∷ 46 ∷ 110 ∷ 117 ∷ 40 ∷ 118 ∷ 50 ∷ 41 ∷ 46 ∷ []) 100 (accepted (1 ∷ 2 ∷ 8 ∷ 1 ∷ 10 ∷ 2 ∷ 11 ∷ 13 ∷ 257 ∷ 0 ∷ 0 ∷ 0 ∷ 1 ∷ [])) none
    -- `v2.` after the first item is a clause. pr v2/0.v2.
    ∷ case (112 ∷ 114 ∷ 32 ∷ 118 ∷ 50 ∷ 47 ∷ 48 ∷ 46 ∷ 118 ∷ 50 ∷ 46 ∷ []) 100 (accepted (1 ∷ 1 ∷ 8 ∷ 1 ∷ 9 ∷ 1 ∷ 10 ∷ 11 ∷ 256 ∷ 0 ∷ 0 ∷ [])) none
    -- Also in format 2. v2.pr v2/0.v2.
    ∷ case (118 ∷ 50 ∷ 46 ∷ 112 ∷ 114 ∷ 32 ∷ 118 ∷ 50 ∷ 47 ∷ 48 ∷ 46 ∷ 118 ∷ 50 ∷ 46 ∷ []) 100 (accepted (2 ∷ 1 ∷ 8 ∷ 1 ∷ 10 ∷ 1 ∷ 11 ∷ 12 ∷ 256 ∷ 0 ∷ 0 ∷ 0 ∷ [])) none
    ∷ []

-- Texts that are refused.
abbrev pub refusals : List TextCase
refusals =
    -- A byte of no class. fn a/0.\n_a
    case (102 ∷ 110 ∷ 32 ∷ 97 ∷ 47 ∷ 48 ∷ 46 ∷ 10 ∷ 65 ∷ []) 100 (refused bad_text) (some 8)
    -- A byte above 127. fn \x80/0.
    ∷ case (102 ∷ 110 ∷ 32 ∷ 128 ∷ 47 ∷ 48 ∷ 46 ∷ []) 100 (refused bad_text) (some 3)
    -- A tab. fn\ta/0.
    ∷ case (102 ∷ 110 ∷ 9 ∷ 97 ∷ 47 ∷ 48 ∷ 46 ∷ []) 100 (refused bad_text) (some 2)
    -- `:` alone, and `: -`. pr p/0.p: -p.
    ∷ case (112 ∷ 114 ∷ 32 ∷ 112 ∷ 47 ∷ 48 ∷ 46 ∷ 112 ∷ 58 ∷ 32 ∷ 45 ∷ 112 ∷ 46 ∷ []) 100 (refused bad_text) (some 8)
    -- `_` alone, and `_ 0`. pr p/1.p(_ 0).
    ∷ case (112 ∷ 114 ∷ 32 ∷ 112 ∷ 47 ∷ 49 ∷ 46 ∷ 112 ∷ 40 ∷ 95 ∷ 32 ∷ 48 ∷ 41 ∷ 46 ∷ []) 100 (refused bad_text) (some 9)
    -- A leading zero in a variable. pr p/1.p(_01).
    ∷ case (112 ∷ 114 ∷ 32 ∷ 112 ∷ 47 ∷ 49 ∷ 46 ∷ 112 ∷ 40 ∷ 95 ∷ 48 ∷ 49 ∷ 41 ∷ 46 ∷ []) 100 (refused bad_text) (some 11)
    -- A leading zero in an arity. fn a/00.
    ∷ case (102 ∷ 110 ∷ 32 ∷ 97 ∷ 47 ∷ 48 ∷ 48 ∷ 46 ∷ []) 100 (refused bad_text) (some 6)
    -- An arity over 15. fn a/16.
    ∷ case (102 ∷ 110 ∷ 32 ∷ 97 ∷ 47 ∷ 49 ∷ 54 ∷ 46 ∷ []) 100 (refused bad_text) (some 5)
    -- An arity of many digits. fn a/18446744073709551616.
    ∷ case (102 ∷ 110 ∷ 32 ∷ 97 ∷ 47 ∷ 49 ∷ 56 ∷ 52 ∷ 52 ∷ 54 ∷ 55 ∷ 52 ∷ 52 ∷ 48 ∷ 55 ∷ 51 ∷ 55 ∷ 48 ∷ 57 ∷ 53 ∷ 53 ∷ 49 ∷ 54 ∷ 49 ∷ 54 ∷ 46 ∷ []) 100 (refused bad_text) (some 5)
    -- A variable over 1,023. pr p/1.p(_1024).
    ∷ case (112 ∷ 114 ∷ 32 ∷ 112 ∷ 47 ∷ 49 ∷ 46 ∷ 112 ∷ 40 ∷ 95 ∷ 49 ∷ 48 ∷ 50 ∷ 52 ∷ 41 ∷ 46 ∷ []) 100 (refused bad_text) (some 9)
    -- No space after `fn`. fna/0.
    ∷ case (102 ∷ 110 ∷ 97 ∷ 47 ∷ 48 ∷ 46 ∷ []) 100 (refused bad_text) (some 3)
    -- A name of 17 bytes is two names. pr a23456789012345zz/0.
    ∷ case (112 ∷ 114 ∷ 32 ∷ 97 ∷ 50 ∷ 51 ∷ 52 ∷ 53 ∷ 54 ∷ 55 ∷ 56 ∷ 57 ∷ 48 ∷ 49 ∷ 50 ∷ 51 ∷ 52 ∷ 53 ∷ 122 ∷ 122 ∷ 47 ∷ 48 ∷ 46 ∷ []) 100 (refused bad_text) (some 19)
    -- A declaration after a clause. pr p/0.p.fn a/0.
    ∷ case (112 ∷ 114 ∷ 32 ∷ 112 ∷ 47 ∷ 48 ∷ 46 ∷ 112 ∷ 46 ∷ 102 ∷ 110 ∷ 32 ∷ 97 ∷ 47 ∷ 48 ∷ 46 ∷ []) 100 (refused bad_text) (some 12)
    -- Brackets with nothing in them. pr p/1.p().
    ∷ case (112 ∷ 114 ∷ 32 ∷ 112 ∷ 47 ∷ 49 ∷ 46 ∷ 112 ∷ 40 ∷ 41 ∷ 46 ∷ []) 100 (refused bad_text) (some 9)
    -- A negated head. pr p/0.~p.
    ∷ case (112 ∷ 114 ∷ 32 ∷ 112 ∷ 47 ∷ 48 ∷ 46 ∷ 126 ∷ 112 ∷ 46 ∷ []) 100 (refused bad_text) (some 7)
    -- `:-` with no literal. pr p/0.p:-.
    ∷ case (112 ∷ 114 ∷ 32 ∷ 112 ∷ 47 ∷ 48 ∷ 46 ∷ 112 ∷ 58 ∷ 45 ∷ 46 ∷ []) 100 (refused bad_text) (some 10)
    -- A variable as a literal. pr p/0.p:-_0.
    ∷ case (112 ∷ 114 ∷ 32 ∷ 112 ∷ 47 ∷ 48 ∷ 46 ∷ 112 ∷ 58 ∷ 45 ∷ 95 ∷ 48 ∷ 46 ∷ []) 100 (refused bad_text) (some 10)
    -- A variable with arguments. pr p/1.p(_0(_1)).
    ∷ case (112 ∷ 114 ∷ 32 ∷ 112 ∷ 47 ∷ 49 ∷ 46 ∷ 112 ∷ 40 ∷ 95 ∷ 48 ∷ 40 ∷ 95 ∷ 49 ∷ 41 ∷ 41 ∷ 46 ∷ []) 100 (refused bad_text) (some 11)
    -- A bracket that is not closed. pr p/1.p(_0.
    ∷ case (112 ∷ 114 ∷ 32 ∷ 112 ∷ 47 ∷ 49 ∷ 46 ∷ 112 ∷ 40 ∷ 95 ∷ 48 ∷ 46 ∷ []) 100 (refused bad_text) (some 11)
    -- A bracket too many. pr p/1.p(_0)).
    ∷ case (112 ∷ 114 ∷ 32 ∷ 112 ∷ 47 ∷ 49 ∷ 46 ∷ 112 ∷ 40 ∷ 95 ∷ 48 ∷ 41 ∷ 41 ∷ 46 ∷ []) 100 (refused bad_text) (some 12)
    -- A last item without its dot: the text's length. pr p/0.p
    ∷ case (112 ∷ 114 ∷ 32 ∷ 112 ∷ 47 ∷ 48 ∷ 46 ∷ 112 ∷ []) 100 (refused bad_text) (some 8)
    -- The same with spacing after it. pr p/0.p \n
    ∷ case (112 ∷ 114 ∷ 32 ∷ 112 ∷ 47 ∷ 48 ∷ 46 ∷ 112 ∷ 32 ∷ 10 ∷ []) 100 (refused bad_text) (some 10)
    -- An unfinished declaration. pr p/
    ∷ case (112 ∷ 114 ∷ 32 ∷ 112 ∷ 47 ∷ []) 100 (refused bad_text) (some 5)
    -- A name declared twice. fn a/0.pr a/1.
    ∷ case (102 ∷ 110 ∷ 32 ∷ 97 ∷ 47 ∷ 48 ∷ 46 ∷ 112 ∷ 114 ∷ 32 ∷ 97 ∷ 47 ∷ 49 ∷ 46 ∷ []) 100 (refused bad_text) (some 10)
    -- A name undeclared. pr p/1.p(a).
    ∷ case (112 ∷ 114 ∷ 32 ∷ 112 ∷ 47 ∷ 49 ∷ 46 ∷ 112 ∷ 40 ∷ 97 ∷ 41 ∷ 46 ∷ []) 100 (refused bad_text) (some 9)
    -- Arity 0 with brackets. fn a/0.pr p/1.p(a(_0)).
    ∷ case (102 ∷ 110 ∷ 32 ∷ 97 ∷ 47 ∷ 48 ∷ 46 ∷ 112 ∷ 114 ∷ 32 ∷ 112 ∷ 47 ∷ 49 ∷ 46 ∷ 112 ∷ 40 ∷ 97 ∷ 40 ∷ 95 ∷ 48 ∷ 41 ∷ 41 ∷ 46 ∷ []) 100 (refused bad_text) (some 16)
    -- Arguments missing. pr p/1.p.
    ∷ case (112 ∷ 114 ∷ 32 ∷ 112 ∷ 47 ∷ 49 ∷ 46 ∷ 112 ∷ 46 ∷ []) 100 (refused bad_text) (some 7)
    -- Too many arguments. pr p/1.p(_0,_1).
    ∷ case (112 ∷ 114 ∷ 32 ∷ 112 ∷ 47 ∷ 49 ∷ 46 ∷ 112 ∷ 40 ∷ 95 ∷ 48 ∷ 44 ∷ 95 ∷ 49 ∷ 41 ∷ 46 ∷ []) 100 (refused bad_text) (some 7)
    -- Text outside the grammar goes before names. p(q).~
    ∷ case (112 ∷ 40 ∷ 113 ∷ 41 ∷ 46 ∷ 126 ∷ []) 100 (refused bad_text) (some 5)
    -- A name declared twice goes before names undeclared. fn a/0.fn a/0.q.
    ∷ case (102 ∷ 110 ∷ 32 ∷ 97 ∷ 47 ∷ 48 ∷ 46 ∷ 102 ∷ 110 ∷ 32 ∷ 97 ∷ 47 ∷ 48 ∷ 46 ∷ 113 ∷ 46 ∷ []) 100 (refused bad_text) (some 10)
    -- The empty text is 8 words.
    ∷ case ([]) 7 (refused no_room) none
    -- The empty text has no symbol.
    ∷ case ([]) 8 (refused bad_header) none
    -- A list of one word too few. pr end/1.\npr drawn/1.\nfn a/0.\npr lead/1.\nlead(_0) :- end(_0), ~drawn(_0).\n
    ∷ case (112 ∷ 114 ∷ 32 ∷ 101 ∷ 110 ∷ 100 ∷ 47 ∷ 49 ∷ 46 ∷ 10 ∷ 112 ∷ 114 ∷ 32 ∷ 100 ∷ 114 ∷ 97 ∷ 119 ∷ 110 ∷ 47 ∷ 49 ∷ 46 ∷ 10 ∷ 102 ∷ 110 ∷ 32 ∷ 97 ∷ 47 ∷ 48 ∷ 46 ∷ 10 ∷ 112 ∷ 114 ∷ 32 ∷ 108 ∷ 101 ∷ 97 ∷ 100 ∷ 47 ∷ 49 ∷ 46 ∷ 10 ∷ 108 ∷ 101 ∷ 97 ∷ 100 ∷ 40 ∷ 95 ∷ 48 ∷ 41 ∷ 32 ∷ 58 ∷ 45 ∷ 32 ∷ 101 ∷ 110 ∷ 100 ∷ 40 ∷ 95 ∷ 48 ∷ 41 ∷ 44 ∷ 32 ∷ 126 ∷ 100 ∷ 114 ∷ 97 ∷ 119 ∷ 110 ∷ 40 ∷ 95 ∷ 48 ∷ 41 ∷ 46 ∷ 10 ∷ []) 18 (refused no_room) none
    -- A predicate in a term's place. pr p/1.pr q/0.p(q).
    ∷ case (112 ∷ 114 ∷ 32 ∷ 112 ∷ 47 ∷ 49 ∷ 46 ∷ 112 ∷ 114 ∷ 32 ∷ 113 ∷ 47 ∷ 48 ∷ 46 ∷ 112 ∷ 40 ∷ 113 ∷ 41 ∷ 46 ∷ []) 100 (refused bad_clause) none
    -- A functor in a literal's place. fn a/0.a.
    ∷ case (102 ∷ 110 ∷ 32 ∷ 97 ∷ 47 ∷ 48 ∷ 46 ∷ 97 ∷ 46 ∷ []) 100 (refused bad_clause) none
    -- A negated functor. fn a/0.pr p/0.p:-~a.
    ∷ case (102 ∷ 110 ∷ 32 ∷ 97 ∷ 47 ∷ 48 ∷ 46 ∷ 112 ∷ 114 ∷ 32 ∷ 112 ∷ 47 ∷ 48 ∷ 46 ∷ 112 ∷ 58 ∷ 45 ∷ 126 ∷ 97 ∷ 46 ∷ []) 100 (refused bad_clause) none
    -- A variable misnumbered. pr p/1.p(_1).
    ∷ case (112 ∷ 114 ∷ 32 ∷ 112 ∷ 47 ∷ 49 ∷ 46 ∷ 112 ∷ 40 ∷ 95 ∷ 49 ∷ 41 ∷ 46 ∷ []) 100 (refused bad_clause) none
    -- The greatest variable is of the grammar, and misnumbered here. pr p/1.p(_1023).
    ∷ case (112 ∷ 114 ∷ 32 ∷ 112 ∷ 47 ∷ 49 ∷ 46 ∷ 112 ∷ 40 ∷ 95 ∷ 49 ∷ 48 ∷ 50 ∷ 51 ∷ 41 ∷ 46 ∷ []) 100 (refused bad_clause) none
    -- 10 goes before 11. p
    ∷ case (112 ∷ []) 0 (refused bad_text) (some 1)
    -- No `-0`. v2.nu a-0.
    ∷ case (118 ∷ 50 ∷ 46 ∷ 110 ∷ 117 ∷ 32 ∷ 97 ∷ 45 ∷ 48 ∷ 46 ∷ []) 100 (refused bad_text) (some 7)
    -- A leading zero in a value: `0`, and `5` where the dot is due. v2.nu a 05.
    ∷ case (118 ∷ 50 ∷ 46 ∷ 110 ∷ 117 ∷ 32 ∷ 97 ∷ 32 ∷ 48 ∷ 53 ∷ 46 ∷ []) 100 (refused bad_text) (some 9)
    -- A leading zero after the sign: `-0` is no token. v2.nu a -05.
    ∷ case (118 ∷ 50 ∷ 46 ∷ 110 ∷ 117 ∷ 32 ∷ 97 ∷ 32 ∷ 45 ∷ 48 ∷ 53 ∷ 46 ∷ []) 100 (refused bad_text) (some 8)
    -- A sign by itself. v2.nu a - 5.
    ∷ case (118 ∷ 50 ∷ 46 ∷ 110 ∷ 117 ∷ 32 ∷ 97 ∷ 32 ∷ 45 ∷ 32 ∷ 53 ∷ 46 ∷ []) 100 (refused bad_text) (some 8)
    -- No `+`. v2.nu a +5.
    ∷ case (118 ∷ 50 ∷ 46 ∷ 110 ∷ 117 ∷ 32 ∷ 97 ∷ 32 ∷ 43 ∷ 53 ∷ 46 ∷ []) 100 (refused bad_text) (some 8)
    -- One more than the greatest value. v2.nu a 32768.
    ∷ case (118 ∷ 50 ∷ 46 ∷ 110 ∷ 117 ∷ 32 ∷ 97 ∷ 32 ∷ 51 ∷ 50 ∷ 55 ∷ 54 ∷ 56 ∷ 46 ∷ []) 100 (refused bad_text) (some 8)
    -- One less than the least. v2.nu a -32769.
    ∷ case (118 ∷ 50 ∷ 46 ∷ 110 ∷ 117 ∷ 32 ∷ 97 ∷ 32 ∷ 45 ∷ 51 ∷ 50 ∷ 55 ∷ 54 ∷ 57 ∷ 46 ∷ []) 100 (refused bad_text) (some 8)
    -- A value of 17 bits. v2.nu a 98304.
    ∷ case (118 ∷ 50 ∷ 46 ∷ 110 ∷ 117 ∷ 32 ∷ 97 ∷ 32 ∷ 57 ∷ 56 ∷ 51 ∷ 48 ∷ 52 ∷ 46 ∷ []) 100 (refused bad_text) (some 8)
    -- The same, negative. v2.nu a -65537.
    ∷ case (118 ∷ 50 ∷ 46 ∷ 110 ∷ 117 ∷ 32 ∷ 97 ∷ 32 ∷ 45 ∷ 54 ∷ 53 ∷ 53 ∷ 51 ∷ 55 ∷ 46 ∷ []) 100 (refused bad_text) (some 8)
    -- A number in format 1. nu n1 -35.
    ∷ case (110 ∷ 117 ∷ 32 ∷ 110 ∷ 49 ∷ 32 ∷ 45 ∷ 51 ∷ 53 ∷ 46 ∷ []) 100 (refused bad_text) (some 3)
    -- `v2.` after a declaration is a clause. fn a/0.v2.nu n1 5.
    ∷ case (102 ∷ 110 ∷ 32 ∷ 97 ∷ 47 ∷ 48 ∷ 46 ∷ 118 ∷ 50 ∷ 46 ∷ 110 ∷ 117 ∷ 32 ∷ 110 ∷ 49 ∷ 32 ∷ 53 ∷ 46 ∷ []) 100 (refused bad_text) (some 13)
    -- So is a second `v2.` v2.v2.nu n1 5.
    ∷ case (118 ∷ 50 ∷ 46 ∷ 118 ∷ 50 ∷ 46 ∷ 110 ∷ 117 ∷ 32 ∷ 110 ∷ 49 ∷ 32 ∷ 53 ∷ 46 ∷ []) 100 (refused bad_text) (some 9)
    -- It is about a predicate of that name, which is not declared. pr p/0.v2.
    ∷ case (112 ∷ 114 ∷ 32 ∷ 112 ∷ 47 ∷ 48 ∷ 46 ∷ 118 ∷ 50 ∷ 46 ∷ []) 100 (refused bad_text) (some 7)
    -- `v2` without a dot. v2 fn a/0.
    ∷ case (118 ∷ 50 ∷ 32 ∷ 102 ∷ 110 ∷ 32 ∷ 97 ∷ 47 ∷ 48 ∷ 46 ∷ []) 100 (refused bad_text) (some 3)
    -- A number has no arity. v2.nu a/5.
    ∷ case (118 ∷ 50 ∷ 46 ∷ 110 ∷ 117 ∷ 32 ∷ 97 ∷ 47 ∷ 53 ∷ 46 ∷ []) 100 (refused bad_text) (some 7)
    -- A number without a value. v2.nu a.
    ∷ case (118 ∷ 50 ∷ 46 ∷ 110 ∷ 117 ∷ 32 ∷ 97 ∷ 46 ∷ []) 100 (refused bad_text) (some 7)
    -- In clauses numbers stand by name. v2.pr p/1.p(5).
    ∷ case (118 ∷ 50 ∷ 46 ∷ 112 ∷ 114 ∷ 32 ∷ 112 ∷ 47 ∷ 49 ∷ 46 ∷ 112 ∷ 40 ∷ 53 ∷ 41 ∷ 46 ∷ []) 100 (refused bad_text) (some 12)
    -- Also negative ones. v2.pr p/1.p(-35).
    ∷ case (118 ∷ 50 ∷ 46 ∷ 112 ∷ 114 ∷ 32 ∷ 112 ∷ 47 ∷ 49 ∷ 46 ∷ 112 ∷ 40 ∷ 45 ∷ 51 ∷ 53 ∷ 41 ∷ 46 ∷ []) 100 (refused bad_text) (some 12)
    -- A number declared after a clause. v2.pr p/0.p.nu a 5.
    ∷ case (118 ∷ 50 ∷ 46 ∷ 112 ∷ 114 ∷ 32 ∷ 112 ∷ 47 ∷ 48 ∷ 46 ∷ 112 ∷ 46 ∷ 110 ∷ 117 ∷ 32 ∷ 97 ∷ 32 ∷ 53 ∷ 46 ∷ []) 100 (refused bad_text) (some 15)
    -- An arity is no value. v2.fn a/-3.
    ∷ case (118 ∷ 50 ∷ 46 ∷ 102 ∷ 110 ∷ 32 ∷ 97 ∷ 47 ∷ 45 ∷ 51 ∷ 46 ∷ []) 100 (refused bad_text) (some 8)
    -- An arity over 15 is a value. v2.fn a/16.
    ∷ case (118 ∷ 50 ∷ 46 ∷ 102 ∷ 110 ∷ 32 ∷ 97 ∷ 47 ∷ 49 ∷ 54 ∷ 46 ∷ []) 100 (refused bad_text) (some 8)
    -- A name declared twice, once as a number. v2.nu a 5.fn a/0.
    ∷ case (118 ∷ 50 ∷ 46 ∷ 110 ∷ 117 ∷ 32 ∷ 97 ∷ 32 ∷ 53 ∷ 46 ∷ 102 ∷ 110 ∷ 32 ∷ 97 ∷ 47 ∷ 48 ∷ 46 ∷ []) 100 (refused bad_text) (some 13)
    -- A number with arguments. v2.nu a 5.pr p/1.p(a(_0)).
    ∷ case (118 ∷ 50 ∷ 46 ∷ 110 ∷ 117 ∷ 32 ∷ 97 ∷ 32 ∷ 53 ∷ 46 ∷ 112 ∷ 114 ∷ 32 ∷ 112 ∷ 47 ∷ 49 ∷ 46 ∷ 112 ∷ 40 ∷ 97 ∷ 40 ∷ 95 ∷ 48 ∷ 41 ∷ 41 ∷ 46 ∷ []) 100 (refused bad_text) (some 19)
    -- `nu` is a name in format 1, and not declared here. nu.
    ∷ case (110 ∷ 117 ∷ 46 ∷ []) 100 (refused bad_text) (some 0)
    -- Two numbers of equal values. v2.nu a 5.nu b 5.
    ∷ case (118 ∷ 50 ∷ 46 ∷ 110 ∷ 117 ∷ 32 ∷ 97 ∷ 32 ∷ 53 ∷ 46 ∷ 110 ∷ 117 ∷ 32 ∷ 98 ∷ 32 ∷ 53 ∷ 46 ∷ []) 100 (refused bad_symbol) none
    -- A number in a literal's place. v2.nu a 5.a.
    ∷ case (118 ∷ 50 ∷ 46 ∷ 110 ∷ 117 ∷ 32 ∷ 97 ∷ 32 ∷ 53 ∷ 46 ∷ 97 ∷ 46 ∷ []) 100 (refused bad_clause) none
    -- Format 2 without a symbol. v2.
    ∷ case (118 ∷ 50 ∷ 46 ∷ []) 100 (refused bad_header) none
    -- It takes two words a symbol. v2.fn a/0.
    ∷ case (118 ∷ 50 ∷ 46 ∷ 102 ∷ 110 ∷ 32 ∷ 97 ∷ 47 ∷ 48 ∷ 46 ∷ []) 9 (refused no_room) none
    ∷ []

pub texts-read : map (λ c. read_text c.text c.room) read ≡ map (λ c. c.expected) read
unfolding rules
texts-read = refl

pub texts-refused : map (λ c. read_text c.text c.room) refusals ≡ map (λ c. c.expected) refusals
unfolding rules
texts-refused = refl

pub places : map (λ c. bad_place c.text) refusals ≡ map (λ c. c.place) refusals
unfolding rules
places = refl

-- So many times `f(`, then `a`, and the brackets closed.
abbrev nested : ℕ → List ℕ → List ℕ
nested zero rest = 97 ∷ rest
nested (suc n) rest = 102 ∷ 40 ∷ nested n (41 ∷ rest)

-- fn f/1.fn a/0.pr p/1.p(f(..)).: 256 cells are a deck, 257 are refused.
abbrev pub deep : ℕ → List ℕ
deep n = 102 ∷ 110 ∷ 32 ∷ 102 ∷ 47 ∷ 49 ∷ 46 ∷ 102 ∷ 110 ∷ 32 ∷ 97 ∷ 47 ∷ 48 ∷ 46 ∷ 112 ∷ 114 ∷ 32 ∷ 112 ∷ 47 ∷ 49 ∷ 46 ∷ 112 ∷ 40 ∷ nested n (41 ∷ 46 ∷ [])

abbrev total : Checked (List ℕ) → Checked ℕ
total (refused n) = refused n
total (accepted ws) = accepted (length ws)

pub longest-clause : total (read_text (deep 254) 16384) ≡ accepted 268
unfolding rules
longest-clause = refl

pub longer-clause : read_text (deep 255) 16384 ≡ refused long_clause
unfolding rules
longer-clause = refl

-- Deck L as text: the lines `fn s0/0.` to `pr s4/1.`, `s2(s0).`, `s2(s1).`, `s3(s0).` and `s4(_0) :- s2(_0), ~s3(_0).`
abbrev pub text_l : List ℕ
text_l =
    102 ∷ 110 ∷ 32 ∷ 115 ∷ 48 ∷ 47 ∷ 48 ∷ 46 ∷ 10
    ∷ 102 ∷ 110 ∷ 32 ∷ 115 ∷ 49 ∷ 47 ∷ 48 ∷ 46 ∷ 10
    ∷ 112 ∷ 114 ∷ 32 ∷ 115 ∷ 50 ∷ 47 ∷ 49 ∷ 46 ∷ 10
    ∷ 112 ∷ 114 ∷ 32 ∷ 115 ∷ 51 ∷ 47 ∷ 49 ∷ 46 ∷ 10
    ∷ 112 ∷ 114 ∷ 32 ∷ 115 ∷ 52 ∷ 47 ∷ 49 ∷ 46 ∷ 10
    ∷ 115 ∷ 50 ∷ 40 ∷ 115 ∷ 48 ∷ 41 ∷ 46 ∷ 10
    ∷ 115 ∷ 50 ∷ 40 ∷ 115 ∷ 49 ∷ 41 ∷ 46 ∷ 10
    ∷ 115 ∷ 51 ∷ 40 ∷ 115 ∷ 48 ∷ 41 ∷ 46 ∷ 10
    ∷ 115 ∷ 52 ∷ 40 ∷ 95 ∷ 48 ∷ 41 ∷ 32 ∷ 58 ∷ 45 ∷ 32 ∷ 115 ∷ 50 ∷ 40 ∷ 95 ∷ 48 ∷ 41 ∷ 44 ∷ 32 ∷ 126 ∷ 115 ∷ 51 ∷ 40 ∷ 95 ∷ 48 ∷ 41 ∷ 46 ∷ 10 ∷ []

pub written : write_text deck_l 96 ≡ accepted text_l
unfolding rules
written = refl

pub not_written : write_text deck_l 95 ≡ refused no_room
unfolding rules
not_written = refl

pub read_again : read_text text_l 29 ≡ accepted deck_l
unfolding rules
read_again = refl

-- A deck of format 2, both ways: `v2.`, the lines `nu s0 -35.`, `fn s1/0.`, `pr s2/1.`, `nu s3 0.`, `nu s4 32767.` and `nu s5 -32768.`, `s2(s0).` and `s2(s3).`
abbrev pub deck_n : List ℕ
deck_n = 2 ∷ 6 ∷ 8 ∷ 2 ∷ 20 ∷ 4 ∷ 22 ∷ 26 ∷ 512 ∷ 65501 ∷ 0 ∷ 0 ∷ 257 ∷ 0 ∷ 512 ∷ 0 ∷ 512 ∷ 32767 ∷ 512 ∷ 32768 ∷ 0 ∷ 2 ∷ 2 ∷ 0 ∷ 2 ∷ 3 ∷ []

abbrev pub text_n : List ℕ
text_n =
    118 ∷ 50 ∷ 46 ∷ 10 ∷ 110 ∷ 117 ∷ 32 ∷ 115 ∷ 48 ∷ 32 ∷ 45 ∷ 51 ∷ 53 ∷ 46 ∷ 10
    ∷ 102 ∷ 110 ∷ 32 ∷ 115 ∷ 49 ∷ 47 ∷ 48 ∷ 46 ∷ 10 ∷ 112 ∷ 114 ∷ 32 ∷ 115 ∷ 50 ∷ 47 ∷ 49 ∷ 46 ∷ 10 ∷ 110 ∷ 117 ∷ 32 ∷ 115 ∷ 51 ∷ 32 ∷ 48 ∷ 46 ∷ 10
    ∷ 110 ∷ 117 ∷ 32 ∷ 115 ∷ 52 ∷ 32 ∷ 51 ∷ 50 ∷ 55 ∷ 54 ∷ 55 ∷ 46 ∷ 10 ∷ 110 ∷ 117 ∷ 32 ∷ 115 ∷ 53 ∷ 32 ∷ 45 ∷ 51 ∷ 50 ∷ 55 ∷ 54 ∷ 56 ∷ 46 ∷ 10 ∷ 115 ∷ 50 ∷ 40 ∷ 115 ∷ 48 ∷ 41 ∷ 46 ∷ 10 ∷ 115 ∷ 50 ∷ 40 ∷ 115 ∷ 51 ∷ 41 ∷ 46 ∷ 10 ∷ []

pub written-numbers : write_text deck_n 85 ≡ accepted text_n
unfolding rules
written-numbers = refl

pub numbers-not_written : write_text deck_n 84 ≡ refused no_room
unfolding rules
numbers-not_written = refl

pub numbers-again : read_text text_n 26 ≡ accepted deck_n
unfolding rules
numbers-again = refl
