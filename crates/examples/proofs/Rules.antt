-- `unfolding rules` lets every written rule compute.
use mathlib.Core.List.{zip_with, flatten}
use lib.Count.{ones, count_trailing_zeros, under}
use Rattle.bitset.specs.Set.{inside}
use Rattle.job.specs.Refusal.{outcome, ◌>>=◌, ◌>>◌, mapped, demand, room, overwritten, leaves}
use Rattle.lists.specs.Choice.{keep, choose, best_of}
use Rattle.job.specs.Handed.{between, listed, each, places_known, curves_known, tests_known, method_known, wants_known, wants_fit, numbers_known}
use Rattle.job.specs.Handed.{is_method, booked_below, booked_known, held_known, job_known_by, counts_known}
use Rattle.job.specs.Order.{order_from}
use Rattle.job.specs.Calls.{ordering_known, checking_known, planning_known, sizing_known}
use Rattle.job_bytes.specs.SetBytes.{group_of, stands, group_bytes, group_map, set_bytes, byte_at, read_group, read_groups}
use Rattle.job_bytes.specs.JobBytes.{fields, read_number, read_field, read_fields, method_read, head_fields, read_head, read_record, read_records, at_end, read_bytes}
use Rattle.job_bytes.specs.JobBytes.{read_job, read_job_answer, read_job_wants, number_bytes, head_bytes, record_bytes, job_bytes, write_job, write_job_answer}
use Rattle.job_bytes.specs.JobBytes.{write_job_buffer}
use Rattle.job_bytes.specs.OldFiles.{method_at, old_method, upgraded}
use Rattle.packages.specs.Tests.{up_to}
use Rattle.packages.specs.Packages.{flat, best_pair, without, joined, on_pair, curves_of, join_all, try, pick_try, ◌or_more◌, longer, run_from, flipped, packages}
use Rattle.ordering.specs.Methods.{weight, weights, degree, appended, grown, best_unlisted, or_else, neighbour, next_of, cuthill_mckee, reverse_cuthill_mckee}
use Rattle.ordering.specs.Methods.{order_by}
use Rattle.ordering.specs.Ordering.{ordering, order_answer, order_list}
use Rattle.drive.specs.Steps.{held_after, moves, curve_count}
use Rattle.drive.specs.Check.{or_breaks, keeps, check_from}
use Rattle.drive.specs.Uses.{later, use_by, next_use, further}
use Rattle.drive.specs.Plan.{chosen_by, furthest, and_then, victims, drops_for, plan_from}
use Rattle.drive.specs.Steps.{together}
use Rattle.every_size.specs.Sizes.{largest, or_mark, count_for, counts_from, all_sizes, serves, fewest_from}
use Rattle.planning.specs.Plan.{steps, in_order}
use Rattle.planning.specs.Planning.{our_plan, planning, plan_answer, plan_lists, sets_known, checked_outcome, end_known, checking}
use Rattle.stepping.specs.Stepping.{look_end, look_at, is_done, held_behind, commit_at, state_after, making, state_made}
use Rattle.stepping.specs.InTurn.{end_step, shown_of, in_turn, tried, held_through}
use Rattle.sizing.specs.Sizing.{sizing, fewest}
use Rattle.plan_bytes.specs.PlanBytes.{set_field, step_bytes, steps_bytes, end_bytes, write_plan, write_plan_answer, write_plan_buffer, read_set, read_step, read_steps}
use Rattle.plan_bytes.specs.PlanBytes.{read_end, read_plan_bytes, plan_steps, read_plan, read_plan_answer, read_plan_order, read_plan_lists, end_parts, part_at, fetched}
use Rattle.plan_bytes.specs.PlanBytes.{or_empty, step_part}
use Rattle.report.specs.Report.{text, high_digits, decimal, curve_text, curves_text, set_text, step_text, steps_text, end_text, head_text, plan_text, printed}
use Rattle.report.specs.Report.{sheet, write_sheet, sheet_answer, sheet_buffer}
use Rattle.report.specs.SizeTable.{size_request, size_job, entry_text, size_text, unless_last, sizes_text, places_text, wanted_text, table_text, sized_text, size_table}
use Rattle.report.specs.SizeTable.{is_digit, digit_by, number_in, count_in}
use Rattle.planned.specs.Planned.{order_request, plan_in_order, order_and_plan, plan_job}
use Rattle.curveplan.specs.Call.{written, job_to_plan, number_of, call_answer, call_plan}

unfoldable pub rules : Unit {0}
unfolding ones count_trailing_zeros under outcome ◌>>=◌ ◌>>◌ mapped demand room overwritten leaves keep choose best_of between inside listed
    each
    places_known curves_known tests_known is_method method_known wants_known wants_fit numbers_known booked_below booked_known held_known job_known_by
    counts_known
    ordering_known checking_known planning_known group_of stands group_bytes group_map set_bytes byte_at read_group read_groups fields read_number read_field
    read_fields
    method_read head_fields read_head read_record read_records at_end read_bytes method_at old_method upgraded read_job read_job_answer read_job_wants
    number_bytes zip_with
    flatten head_bytes record_bytes job_bytes write_job write_job_answer write_job_buffer weight weights degree up_to appended grown best_unlisted or_else
    neighbour
    next_of cuthill_mckee reverse_cuthill_mckee flat best_pair without joined on_pair curves_of join_all try pick_try ◌or_more◌ longer run_from flipped packages
    order_by ordering order_answer order_list order_from held_after moves curve_count or_breaks keeps check_from later use_by next_use further chosen_by
    furthest
    and_then victims drops_for plan_from steps in_order our_plan planning plan_answer plan_lists sets_known checked_outcome end_known checking look_end look_at
    is_done
    held_behind commit_at state_after making state_made end_step shown_of in_turn tried held_through set_field step_bytes steps_bytes end_bytes write_plan
    write_plan_answer write_plan_buffer read_set read_step read_steps read_end read_plan_bytes plan_steps read_plan read_plan_answer read_plan_order
    read_plan_lists end_parts
    part_at fetched or_empty step_part text high_digits decimal curve_text curves_text set_text step_text steps_text end_text head_text plan_text printed sheet
    write_sheet sheet_answer sheet_buffer order_request plan_in_order order_and_plan plan_job written job_to_plan number_of call_answer call_plan
    sizing_known together largest or_mark count_for counts_from all_sizes serves fewest_from sizing fewest size_request size_job entry_text size_text
    unless_last sizes_text
    places_text wanted_text table_text sized_text size_table is_digit digit_by number_in count_in
rules = tt
