-- The slices behind a struct of tables stay the caller's own.
use Rattle.std.specs.Prelude.{◌≡◌}
use Rattle.workbook.specs.declared.tables.Tables.{Tables}

-- a call hands back the very slices that it was lent
abbrev pub SameTables : {R : Type 0} → Tables R → Tables R → Type 0
SameTables entry exit =
    (exit.sources.ghost_name ≡ entry.sources.ghost_name) × (exit.records.ghost_name ≡ entry.records.ghost_name)
    × (exit.rows.ghost_name ≡ entry.rows.ghost_name) × (exit.assertions.ghost_name ≡ entry.assertions.ghost_name)
