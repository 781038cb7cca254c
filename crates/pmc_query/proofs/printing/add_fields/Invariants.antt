use Rattle.std.proofs.Common.{◌≡◌, ◌++◌, drop, length}
use Rattle.ptp_management.specs.ManagementFields.{fields_lines, width_of}
use Rattle.ptp_management.specs.ManagementQueries.{lines_text}
use Rattle.pmc_query.proofs.printing.add_fields.Given as goal

abbrev pub invariant-loop-field : goal.invariant-loop-field
invariant-loop-field l = record {
  long : length l.rest ≡ width_of (drop l.field-index l.fields);
  so_far : l.out ++ lines_text (fields_lines (drop l.field-index l.fields) l.rest) ≡ l.initial.out ++ lines_text (fields_lines l.fields l.octets);
}
