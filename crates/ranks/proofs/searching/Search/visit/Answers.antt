-- `visit` meets its contract. Assumes nothing.
use Rattle.std.proofs.Common.{◌≡◌, ◌+◌, ◌-◌, Some, List, [], ◌++◌, length, get_or, take, drop, sym, ap, ◌∙◌, subst, arith, rules}
use Rattle.rules.specs.Terms.{nil}
use Rattle.rules.specs.Syntax.{Literal, map_literals}
use Rattle.rules.specs.Cells.{read_cell}
use Rattle.rules.proofs.FlatLaws.{beginning, beginning_at}
use Rattle.deck.specs.Kinds.{symbols_of}
use Rattle.deck.proofs.OpenLaws.{accepted-deck}
use Rattle.ranks.specs.Literals.{Begins}
use Rattle.ranks.specs.Searching.{lifted, Follows}
use Rattle.ranks.proofs.ValueLaws.{begins-small}
use Rattle.ranks.proofs.ClauseFacts.{Known, known, symbols-few, body-part, clause-literals}
use Rattle.ranks.proofs.SearchLaws.{Going, going-start, going-more, going_end, follows-map, cells-more, cells-none, begun-one, begun-none, raised-follows}
use Rattle.ranks.proofs.searching.Search.visit.Goals as goal
use Rattle.ranks.proofs.searching.Search.visit.Goals.{After-cells, in-Some, in_default}

-- Clause i.
clause : (c : goal.After-cells) → Known c.args.clauses.now.deck.words.now (accepted-deck c.args.clauses.now.deck.words.now c.args.clauses.now.deck.opens).0 c.args.i c.cells.result.now
clause c =
    let ws = c.args.clauses.now.deck.words.now in
    let d = accepted-deck ws c.args.clauses.now.deck.opens in
    known ws d.0 c.args.i c.cells.result.now d.1 c.requires.1 c.cells.ensures

pub slice_bounds-body-count : goal.slice_bounds-body-count
slice_bounds-body-count c = omega (arith, (clause (goal.at.slice_bounds-body-count c).After-cells).some)

pub slice_bounds-body-start : goal.slice_bounds-body-start
slice_bounds-body-start c = let s = (clause (goal.at.slice_bounds-body-start c).After-cells).some in search rules

pub loop-cell-init : goal.loop-cell-init
loop-cell-init c = going-start _ _ _ _

pub literal-requires : goal.literal-requires
literal-requires c =
    let ws = c.args.clauses.now.deck.words.now in
    let d = accepted-deck ws c.args.clauses.now.deck.opens in
    omega (arith, ap length c.symbols-symbols.ensures, symbols-few ws d.0 d.1)

pub loop-cell-preserved : goal.loop-cell-preserved
loop-cell-preserved c =
    let l = c.loop-cell in
    let S = symbols_of c.symbols-symbols.result.now in
    let cells = take (length c.cells.result.now - 1) (drop 1 c.cells.result.now) in
    let cell = read_cell S (get_or cells l.cell-index 0) in
    let rest = beginning S (drop (l.cell-index + 1) cells) in
    let mark = c.args.mark in
    let old = c.args.self.now in
    let here : Going (beginning S cells) mark old.marks old.waiting.items (beginning_at cell [] ++ rest) l.self.marks l.self.waiting.items =
    subst (λ (ls : List Literal). Going (beginning S cells) mark old.marks old.waiting.items ls l.self.marks l.self.waiting.items) (cells-more S cells l.cell-index c.loop-cell-test.true) l.invariant in
    elim c.match-literal.branch [
      | in-Some w ↦ (
          let b : Begins cell (Some w.in-Some.l) = subst (Begins cell) w.in-Some.is c.literal.ensures in
          let one = begun-one cell w.in-Some.l b in
          let v : lifted one.0 mark ≡ w.min.result = omega (arith, one.3, w.min.ensures) in
          let f = raised-follows l.self.marks l.self.waiting.items w.raise.new.self.marks w.raise.new.self.waiting.items w.in-Some.l.predicate w.min.result (omega (arith, (begins-small cell w.in-Some.l b).0, l.self.ready.size)) w.raise.ensures one.0 mark one.2 v in
          rw w.self-is
          (going-more (beginning S cells) mark old.marks old.waiting.items (beginning_at cell []) rest l.self.marks l.self.waiting.items w.raise.new.self.marks w.raise.new.self.waiting.items here
          (subst (λ (ls : List Literal). Follows ls mark l.self.marks l.self.waiting.items w.raise.new.self.marks w.raise.new.self.waiting.items) (sym one.1) f)))
      | in_default w ↦
          rw w.self-is
          (subst (λ (ls : List Literal). Going (beginning S cells) mark old.marks old.waiting.items (ls ++ rest) l.self.marks l.self.waiting.items) (begun-none cell (subst (Begins cell) w.in_default.is c.literal.ensures)) here)
    ]

pub returns : goal.returns
returns c d b e p =
    let l = c.loop-cell in
    let S = symbols_of c.symbols-symbols.result.now in
    let cells = take (length c.cells.result.now - 1) (drop 1 c.cells.result.now) in
    let mark = c.args.mark in
    let old = c.args.self.now in
    let all : beginning S cells ≡ map_literals (λ ts. nil) b.body =
    ap (beginning S) (body-part c.cells.result.now) ∙ clause-literals c.args.clauses.now.deck.words.now d c.args.i b _ _ e p (c.cells.ensures d b e p) c.symbols-symbols.ensures in
    let f : Follows (beginning S cells) mark old.marks old.waiting.items l.self.marks l.self.waiting.items =
    going_end (beginning S cells) mark old.marks old.waiting.items l.self.marks l.self.waiting.items
    (subst (λ (ls : List Literal). Going (beginning S cells) mark old.marks old.waiting.items ls l.self.marks l.self.waiting.items) (cells-none S cells l.cell-index (omega (arith, c.loop-cell-test.false))) l.invariant) in
    follows-map b.body mark old.marks old.waiting.items l.self.marks l.self.waiting.items
    (subst (λ (ls : List Literal). Follows ls mark old.marks old.waiting.items l.self.marks l.self.waiting.items) all f)
