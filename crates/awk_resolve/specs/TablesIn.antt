-- The plain view of a script's tables.
use Rattle.awk_resolve.specs.Tables as tables
use Rattle.awk_resolve.specs.declared.tables.Tables.{Tables}

abbrev pub tables_in : Tables → tables.Tables
tables_in n = record {
  variables = n.variables;
  script_arrays = n.script_arrays;
  functions = n.functions;
  arrays = n.arrays;
}
