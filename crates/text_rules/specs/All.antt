-- All the written rules that are computed, those of texts among them: a theorem that computes with them says `unfolding rules`.
use Rattle.rules.specs.All.{rules as others}
use Rattle.text_rules.specs.TextTokens.{ranges, class_in, class_of, is_class, digit_byte, word_byte, longest, numeral, value, at_most, number_kind, number_token, negative_kind, negative_token, variable_token, implies_token, token_from, tokens}
use Rattle.text_rules.specs.TextGrammar.{same_bytes, fn_text, pr_text, nu_text, v2_text, is_key, is_number_key, is_v2, is_value, after_term, after_name, follows, next, unread}
use Rattle.text_rules.specs.TextWords.{symbol_from, value_word, begins_v2, items, declares, number_declaration, symbol_declaration, declaration, tokens_after, declarations, clause_tokens, commas, given_arguments, entry_after, entries, number_of, is_number, declared_twice, has_arity, declared_at, well_used, misused, symbol_number, entry_cell, starts_from, format_from, deck_from}
use Rattle.text_rules.specs.TextWriter.{name_text, declaration_text, symbol_text, value_text, number_text, symbol_line, symbols_text, format_text, literal_text, literals_text, body_text, clause_text, clauses_text, deck_text}
use Rattle.text_rules.specs.Text.{numbers_in, text_items, text_declarations, text_entries, text_unread, text_format, text_words, or_else, bad_left, place_of, bad_place, absent, read_text, write_text}
use Rattle.text_rules.specs.TextProgram.{place_line, read_prints, read_program, write_run, write_prints, write_program}

unfoldable pub rules : Unit {0}
unfolding others ranges class_in class_of is_class digit_byte word_byte longest numeral value at_most number_kind number_token negative_kind negative_token variable_token implies_token token_from tokens same_bytes fn_text pr_text nu_text v2_text is_key is_number_key is_v2 is_value after_term after_name follows next unread symbol_from value_word begins_v2 items declares number_declaration symbol_declaration declaration tokens_after declarations clause_tokens commas given_arguments entry_after entries number_of is_number declared_twice has_arity declared_at well_used misused symbol_number entry_cell starts_from format_from deck_from name_text declaration_text symbol_text value_text number_text symbol_line symbols_text format_text literal_text literals_text body_text clause_text clauses_text deck_text numbers_in text_items text_declarations text_entries text_unread text_format text_words or_else bad_left place_of bad_place absent read_text write_text place_line read_prints read_program write_run write_prints write_program
rules = tt
