-- The clauses and symbols of an opened deck, as the code reads them. Assumes nothing.
use Prim.Native.Nat.{ℕ, ◌+◌, ◌-◌, ◌≤◌, ◌<◌}
use mathlib.Core.Path.{◌≡◌, sym, ◌∙◌, ap, subst}
use mathlib.Core.List.{List, [], ◌∷◌, Memᴰ}
use native.Mathlib.Omega.{arith}
use lib.ListN.{length, get_or, take, drop, length-drop}
use lib.Seq.{take_all}
use Rattle.rules.specs.Terms.{nil}
use Rattle.rules.specs.Syntax.{Literal, pos, neg, Clause, Deck, map_literals, predicate_of}
use Rattle.rules.specs.Refusals.{accepted}
use Rattle.rules.specs.Decks.{open_deck, write_clause, clause_words, symbol_words}
use Rattle.rules.specs.WellFormed.{All, WfLiterals}
use Rattle.rules.specs.Ranks.{greatest, rests_on}
use Rattle.rules.proofs.CellLaws.{positive-below}
use Rattle.rules.proofs.DeckLaws.{opened-written}
use Rattle.rules.proofs.FlatLaws.{beginning}
use Rattle.rules.proofs.RankSearch.{heads}
use Rattle.rules.proofs.RankTelling.{heads-symbols}
use Rattle.deck.specs.Kinds.{symbols_of}
use Rattle.deck.proofs.OpenLaws.{accepted-symbols}
use Rattle.clauses.specs.Clauses.{ClauseAt}
use Rattle.clauses.proofs.ClauseLaws.{clause-at, clause-of, first_cell}
use Rattle.clauses.proofs.GroupLaws.{predicate-below}
use Rattle.ranks.specs.Raising.{number}
use Rattle.ranks.proofs.ValueLaws.{body-literals, number-map, symbols-length, negative-below}
use Rattle.ranks.proofs.ListLaws.{all-mem, all-rests}

-- There are as many symbols as symbol words, and at most 4,096.
pub symbols-count : (ws : List ℕ) (d : Deck) → open_deck ws ≡ accepted d → length (symbol_words ws) ≡ length d.symbols
symbols-count ws d e = sym (ap length (accepted-symbols ws d e) ∙ symbols-length (symbol_words ws))

pub symbols-few : (ws : List ℕ) (d : Deck) → open_deck ws ≡ accepted d → length (symbol_words ws) ≤ 4096
symbols-few ws d e = omega (arith, symbols-count ws d e, (opened-written ws d e).1.few_symbols)

-- No head is past the symbols.
pub heads-few : (ws : List ℕ) (d : Deck) → open_deck ws ≡ accepted d → (heads d.clauses ≤ length (symbol_words ws)) × (heads d.clauses ≤ 4096)
heads-few ws d e =
    let h = heads-symbols d.symbols d.clauses (opened-written ws d e).1.clauses in
    (omega (arith, h, symbols-count ws d e), omega (arith, h, (opened-written ws d e).1.few_symbols))

-- The literals after a clause's first cell are those of its body, but for their terms.
pub clause-literals : (ws : List ℕ) (d : Deck) (i : ℕ) (c : Clause) (cells symbols : List ℕ) → open_deck ws ≡ accepted d → ClauseAt d.clauses i c
    → cells ≡ write_clause c → symbols ≡ symbol_words ws → beginning (symbols_of symbols) (drop 1 cells) ≡ map_literals (λ ts. nil) c.body
clause-literals ws d i c cells symbols e p q r =
    let S : symbols_of symbols ≡ d.symbols = ap symbols_of r ∙ sym (accepted-symbols ws d e) in
    rw S (body-literals d.symbols c cells (clause-at d.symbols d.clauses i c (opened-written ws d e).1.clauses p) q)

-- What they come to is what the body comes to.
pub clause-value : (ws : List ℕ) (d : Deck) (i : ℕ) (c : Clause) (cells symbols words : List ℕ) → open_deck ws ≡ accepted d → ClauseAt d.clauses i c
    → cells ≡ write_clause c → symbols ≡ symbol_words ws → greatest (number words) (beginning (symbols_of symbols) (drop 1 cells)) ≡ greatest (number words) c.body
clause-value ws d i c cells symbols words e p q r =
    ap (greatest (number words)) (clause-literals ws d i c cells symbols e p q r) ∙ number-map words c.body

-- A clause of an opened deck by its number, with its cells: not empty, and the first is its predicate, one of the symbols.
pub record Known (ws : List ℕ) (d : Deck) (i : ℕ) (cells : List ℕ) : Type 0 where
  pub clause : Clause
  pub place : ClauseAt d.clauses i clause
  pub written : cells ≡ write_clause clause
  pub some : 0 < length cells
  pub head : get_or cells 0 0 ≡ clause.predicate
  pub small : clause.predicate < 4096

pub known : (ws : List ℕ) (d : Deck) (i : ℕ) (cells : List ℕ) → open_deck ws ≡ accepted d → i < length (clause_words ws)
    → ((d : Deck) (c : Clause) → open_deck ws ≡ accepted d → ClauseAt d.clauses i c → cells ≡ write_clause c) → Known ws d i cells
known ws d i cells e h f =
    let k = clause-of ws d i e h in
    let w = f d k.clause e k.place in
    let z = first_cell cells k.clause w in
    record {
      clause = k.clause;
      place = k.place;
      written = w;
      some = z.0;
      head = z.1;
      small = omega (arith, predicate-below ws d i k.clause e k.place, symbols-count ws d e, symbols-few ws d e);
    }

-- The cells after the first, as a part of the clause's cells.
pub body-part : (cells : List ℕ) → take (length cells - 1) (drop 1 cells) ≡ drop 1 cells
body-part cells = take_all (length cells - 1) (drop 1 cells) (omega (arith, length-drop 1 cells))

-- The literals of a well-formed clause are of the symbols.
literals-below : (ws : List ℕ) (ls : List Literal) → WfLiterals (symbols_of ws) ls → All (λ l. predicate_of l < length ws) ls
literals-below ws [] w = tt
literals-below ws (pos p ts ∷ ls) w = (omega (arith, positive-below (symbols_of ws) p _ w.0.0, symbols-length ws), literals-below ws ls w.1)
literals-below ws (neg p ts ∷ ls) w = (negative-below ws (16384 + p) p _ w.0.0, literals-below ws ls w.1)

-- So are those in the bodies of the clauses about a predicate.
pub rests-below : (ws : List ℕ) (d : Deck) → open_deck ws ≡ accepted d → (q : ℕ) (l : Literal) → Memᴰ l (rests_on d.clauses q) → predicate_of l < length (symbol_words ws)
rests-below ws d e q l m =
    all-mem (λ k. predicate_of k < length (symbol_words ws)) m
    (all-rests (λ k. predicate_of k < length (symbol_words ws)) d.clauses q (λ i c at o.
    let w = (clause-at d.symbols d.clauses i c (opened-written ws d e).1.clauses at).literals.1 in
    literals-below (symbol_words ws) c.body (subst (λ S. WfLiterals S c.body) (accepted-symbols ws d e) w)))
