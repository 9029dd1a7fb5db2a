-- Names that open the definitions, a module at a time and all at once: a closed example says `unfolding everything` and computes.
use Rattle.std.specs.Prelude.{ℕ}
use Rattle.laws.specs.Tools.{range, all_below, some_below, sum_below, first_from, all_of, all, any, keep, member, place, repeats, same, join, add_new, firsts, insert_by, sort_by}
use Rattle.defs.specs.Table.{statement_words, hyp_words, entry_words, child_words, label_in, hyps_in, children_in, mandatory}
use Rattle.defs.specs.Check.{first_of, or_else, header_rules, bad1, statement_rules, statements_rules, bad2, label_byte, label_wrong, label_again, bad3, reference_ok, hyps_repeat, bad4, entry_rules, entries_rules, bad5, children_below, bad6, goal_rules, bad7, table_refusal}
use Rattle.defs.specs.Graph.{graph_in, graph_of, trees_by, tree_within, tree_of}
use Rattle.defs.specs.Counts.{parent_count, parents, lower, descend, distances, parents_of, distances_of, reachable, shared_size}
use Rattle.defs.specs.Steps.{step_words, flat, refer, gets_mark, finish, each_child, visit, packed_with, packed_steps, list_children, normal_within, normal_steps, normal_size, normal_count}
use Rattle.defs.specs.Names.{digits_within, digits, is_label_in, is_free_in, name_number_in, name}
use Rattle.defs.specs.Letters.{leading, code, step_number, step_letters, letters_of}
use Rattle.defs.specs.Order.{used, listed, cost_of, use_of, by_use, by_index, cutoffs, start_at, blocks_from, floatings, blocks, best, rest_reaches, choose, chosen, emit, fill_within, fill_block, fill_blocks, label_list}
use Rattle.defs.specs.Layout.{standard, layout_rules, bad8, line_room, begin, put_word, put_words, room_at, cut_within, put_letters, widest}
use Rattle.defs.specs.Text.{packed_of, normal_of, hyp_prefix, step_word, close, steps_text, labels_of, letters_for, compressed_in, text_of}
use Rattle.defs.specs.Refusals.{mixed, bad10, bad11, bad12, bad13, need32, need16}
use Rattle.defs.specs.Outcome.{length_after, out_after, is_early, work_after, one_output, two_outputs, check_outcome, counts_number, parents_outcome, distances_outcome, step_list_words, step_list_number, step_list_outcome, compressed_tests, letters_number, letters_outcome, text_number, text_outcome}
use Rattle.defs.specs.Replay.{steps_in, fresh, step_rules, malformed, stack_short, popped, left, lookup, no_room, normal_step, refer_step, name_top, after_step, and_then, one_step, all_steps, replayed, replay_first, unchanged, settled, replay_outcome}
use Rattle.defs.specs.Decode.{bad_labels, step_named, mark_last, finish_code, lead_code, mark_step, one_letter, or_refuse, all_letters, decoded, refused_steps, steps_or, decode_number, decode_outcome}

unfoldable pub opened_tools : ℕ
unfolding range all_below some_below sum_below first_from all_of all any keep member place repeats same join add_new firsts insert_by sort_by
opened_tools = 0

unfoldable pub opened_table : ℕ
unfolding statement_words hyp_words entry_words child_words label_in hyps_in children_in mandatory
opened_table = 0

unfoldable pub opened_check : ℕ
unfolding first_of or_else header_rules bad1 statement_rules statements_rules bad2 label_byte label_wrong label_again bad3 reference_ok hyps_repeat bad4 entry_rules entries_rules bad5 children_below bad6 goal_rules bad7 table_refusal
opened_check = 0

unfoldable pub opened_graph : ℕ
unfolding graph_in graph_of trees_by tree_within tree_of
opened_graph = 0

unfoldable pub opened_counts : ℕ
unfolding parent_count parents lower descend distances parents_of distances_of reachable shared_size
opened_counts = 0

unfoldable pub opened_steps : ℕ
unfolding step_words flat refer gets_mark finish each_child visit packed_with packed_steps list_children normal_within normal_steps normal_size normal_count
opened_steps = 0

unfoldable pub opened_names : ℕ
unfolding digits_within digits is_label_in is_free_in name_number_in name
opened_names = 0

unfoldable pub opened_letters : ℕ
unfolding leading code step_number step_letters letters_of
opened_letters = 0

unfoldable pub opened_order : ℕ
unfolding used listed cost_of use_of by_use by_index cutoffs start_at blocks_from floatings blocks best rest_reaches choose chosen emit fill_within fill_block fill_blocks label_list
opened_order = 0

unfoldable pub opened_layout : ℕ
unfolding standard layout_rules bad8 line_room begin put_word put_words room_at cut_within put_letters widest
opened_layout = 0

unfoldable pub opened_text : ℕ
unfolding packed_of normal_of hyp_prefix step_word close steps_text labels_of letters_for compressed_in text_of
opened_text = 0

unfoldable pub opened_refusals : ℕ
unfolding mixed bad10 bad11 bad12 bad13 need32 need16
opened_refusals = 0

unfoldable pub opened_outcome : ℕ
unfolding length_after out_after is_early work_after one_output two_outputs check_outcome counts_number parents_outcome distances_outcome step_list_words step_list_number step_list_outcome compressed_tests letters_number letters_outcome text_number text_outcome
opened_outcome = 0

unfoldable pub opened_replay : ℕ
unfolding steps_in fresh step_rules malformed stack_short popped left lookup no_room normal_step refer_step name_top after_step and_then one_step all_steps replayed replay_first unchanged settled replay_outcome
opened_replay = 0

unfoldable pub opened_decode : ℕ
unfolding bad_labels step_named mark_last finish_code lead_code mark_step one_letter or_refuse all_letters decoded refused_steps steps_or decode_number decode_outcome
opened_decode = 0

unfoldable pub everything : ℕ
unfolding opened_tools opened_table opened_check opened_graph opened_counts opened_steps opened_names opened_letters opened_order opened_layout opened_text opened_refusals opened_outcome opened_replay opened_decode
everything = 0
