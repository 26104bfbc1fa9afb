-- All the written rules that are computed, at once: a theorem that computes with them says `unfolding rules`.
use Rattle.std.proofs.Math.Decide.{ℕ_discrete}
use Rattle.rules.specs.Cells.{symbol_cell, negated_cell, variable_cell, read_cell, take_one, take_terms, put_term, put_literal, put_cell, read_row, only_literals, numbered, keep_numbered, read_literals}
use Rattle.rules.specs.Refusals.{and_then, require, obtain}
use Rattle.rules.specs.Decks.{write_symbol, write_pairs, write_symbols, symbol_room, read_symbol, write_clause, head_and_body, read_clause, clauses_cells, clause_starts, header_words, write_deck, header_fits, symbol_part, kind_word, kind_words, symbol_words, clause_words, term_cells, read_next, read_all, read_value, read_values, numbers, distinct, keep_distinct, read_format, rising, starts_fit, clause_row, clause_rows, rows_short, open_deck, read_query, check_query}
use Rattle.rules.specs.Goals.{mark_number, goal_cells, goal_words, write_goal, write_goals, member, appearing, position, renumber, variables, query_variables, first_goal, read_mark, as_goal, read_goal, with_goal, goals_after, read_goals}
use Rattle.rules.specs.Unification.{unify_front, unify_step, unify_round, unify_within, unify}
use Rattle.rules.specs.Resolution.{ground, behind, select, clauses_about, resolved, resolvent, keep_some, collect, resolvents, any_oversized, row_of, in_row, row_clauses, has_rows, tried_by, tried, rows_words, rows_of, index_words, matchings, selected_cost, cost_of}
use Rattle.rules.specs.Evaluation.{start_level, with_pending, with_parked, with_answer, held, derive_act, decide_act, selected_act, literals_act, act_of, question, answer_step, act_step, unless_over, check_store, first_cost, verdict_of, reply_of, close, proceed, decide_by, unasked, next_from, next_of, turn, evaluate_level, stop_of, outcome, evaluate}
use Rattle.rules.specs.Loose.{among, tight, tight_clause, tight_query, tight_clauses, check_tight, check_tight_query, standing_at, standing}
use Rattle.rules.specs.Stored.{goal_fits, pending_fits, parked_fits, every, as_open, read_open}
use Rattle.rules.specs.Column.{bare, only_answers, read_answers, flatten, number_word, term_word, entry_word, column_words, value_of, total, whole_part, remainder, mean, column}
use Rattle.rules.specs.Rights.{pass, passes, reached, bar_fits, bars_fit, any_barred, check_rights}
use Rattle.rules.specs.Run.{run_from, check_sizes, run, carry, carry_on, report, returned, answers_after, store_start, run_on, carry_from}
use Rattle.rules.specs.Preview.{lengthened, open_copy, preview, preview_on, add_clause}
use Rattle.rules.specs.Press.{one_step, press_level, press, press_once, press_from, counted, counts, displayed, display_after, advanced, press_with}
use Rattle.rules.specs.Listing.{refused_text, all_text, no_text, open_text, true_text, stop_text, digits, decimal, print_answer, print_answers, verdict_text, listing}
use Rattle.rules.specs.Program.{words_from, bytes_from, even, deck_file, query_input, program_run, program}
use Rattle.rules.specs.CarryProgram.{budget_after, budget_from, number_bytes, number_from, deck_input, bars_from, open_words, open_run, goals_input, store_from, carry_bytes, carry_run, kept_listing, kept_goals}
use Rattle.rules.specs.PreviewProgram.{clause_from, preview_words, preview_run, preview_program}
use Rattle.rules.specs.Drill.{with_first, fillings, terms_from, drill_terms, same, past, after, fitting, drill, joined, list_after}
use Rattle.rules.specs.DrillProgram.{drill_input, row_terms, drill_run, drill_prints, drill_program}

unfoldable pub rules : Unit {0}
unfolding ℕ_discrete symbol_cell negated_cell variable_cell read_cell take_one take_terms put_term put_literal put_cell read_row only_literals numbered keep_numbered read_literals and_then require obtain write_symbol write_pairs write_symbols symbol_room read_symbol write_clause head_and_body read_clause clauses_cells clause_starts header_words write_deck header_fits symbol_part kind_word kind_words symbol_words clause_words term_cells read_next read_all read_value read_values numbers distinct keep_distinct read_format rising starts_fit clause_row clause_rows rows_short open_deck read_query check_query mark_number goal_cells goal_words write_goal write_goals member appearing position renumber variables query_variables first_goal read_mark as_goal read_goal with_goal goals_after read_goals unify_front unify_step unify_round unify_within unify ground behind select clauses_about resolved resolvent keep_some collect resolvents any_oversized row_of in_row row_clauses has_rows tried_by tried rows_words rows_of index_words matchings selected_cost cost_of start_level with_pending with_parked with_answer held derive_act decide_act selected_act literals_act act_of question answer_step act_step unless_over check_store first_cost verdict_of reply_of close proceed decide_by unasked next_from next_of turn evaluate_level stop_of outcome evaluate among tight tight_clause tight_query tight_clauses check_tight check_tight_query standing_at standing goal_fits pending_fits parked_fits every as_open read_open bare only_answers read_answers flatten number_word term_word entry_word column_words value_of total whole_part remainder mean column pass passes reached bar_fits bars_fit any_barred check_rights run_from check_sizes run carry carry_on report returned answers_after store_start run_on carry_from lengthened open_copy preview preview_on add_clause one_step press_level press press_once press_from counted counts displayed display_after advanced press_with refused_text all_text no_text open_text true_text stop_text digits decimal print_answer print_answers verdict_text listing words_from bytes_from even deck_file query_input program_run program budget_after budget_from number_bytes number_from deck_input bars_from open_words open_run goals_input store_from carry_bytes carry_run kept_listing kept_goals clause_from preview_words preview_run preview_program with_first fillings terms_from drill_terms same past after fitting drill joined list_after drill_input row_terms drill_run drill_prints drill_program
rules = tt
