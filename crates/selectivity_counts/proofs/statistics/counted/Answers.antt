use Rattle.std.proofs.Common.{◌∙◌, arith, ap, length, map}
use Rattle.std.specs.Rc.{rc_value}
use Rattle.std.proofs.lemmas.List.{length-map}
use Rattle.csv_tables.specs.StatementTables.{rows_in, tables_in}
use Rattle.statement_meaning.specs.Combinations.{rows_at}
use Rattle.statement_statistics.specs.Statistics.{row_count}
use Rattle.statement_statistics.proofs.Numbered.{length-numbered}
use Rattle.table_index.specs.StatementIndexes.{masks_of}
use Rattle.selectivity_counts.specs.Kept.{distinct_counts}
use Rattle.selectivity_counts.proofs.KeptCounts.{are_counted, few_of, fans_long, stats_are, stats_sound}
use Rattle.selectivity_counts.proofs.statistics.counted.Goals as goal

pub fan_counts-requires : goal.fan_counts-requires
fan_counts-requires c =
    omega (
      arith,
      ap length c.as_slice.ensures.value,
      ap length c.in_ok-rows.ensures.value,
      length-numbered (λ number _. row_count (rows_at (rows_in (tables_in c.args.tables.now)) number)) 0
          c.args.q.now.places,
      ap length c.requires.tables.columns,
      ap length c.requires.distincts,
      length-map (tables_in c.args.tables.now) (λ table. table.schema),
      length-map c.args.q.now.places (λ place. place.schema),
      length-map (tables_in c.args.tables.now) distinct_counts,
      length-map c.args.distincts.now rc_value,
    )

pub of-requires-clause-fans : goal.of-requires-clause-fans
of-requires-clause-fans c =
    ap length c.as_slice-6.ensures.value
    ∙ fans_long c.args.q.now (tables_in c.args.tables.now) c.in_ok-rows.rows.items c.in_ok-fixed.fixed.items
    c.in_ok-matching.matching.items c.in_ok-edges.edges.items c.in_ok-fans.fans.items
    (masks_of c.args.q.now.places c.args.indexes.now) c.args.weights c.sound.ensures.value c.requires.tables
    c.requires.weights (few_of c.args.tables.now c.in_ok-rows.ensures.few) c.requires.narrow
    (are_counted c.args.q.now (tables_in c.args.tables.now) (map rc_value c.args.distincts.now)
    c.in_ok-rows.rows.items c.as_slice.result.now c.in_ok-fixed.fixed.items c.in_ok-matching.matching.items
    c.in_ok-edges.edges.items c.in_ok-fans.fans.items c.requires.distincts c.as_slice.ensures.value
    c.in_ok-rows.ensures.value c.in_ok-fixed.ensures c.in_ok-matching.ensures c.in_ok-edges.ensures
    c.in_ok-fans.ensures)

pub of-requires-clause-sound : goal.of-requires-clause-sound
of-requires-clause-sound c =
    rw (
      c.as_slice-2.ensures.value,
      c.as_slice-3.ensures.value,
      c.as_slice-4.ensures.value,
      c.as_slice-5.ensures.value,
      c.as_slice-6.ensures.value,
      c.indexed.ensures,
    )
    (stats_sound c.args.q.now (tables_in c.args.tables.now) c.in_ok-rows.rows.items c.in_ok-fixed.fixed.items
    c.in_ok-matching.matching.items c.in_ok-edges.edges.items c.in_ok-fans.fans.items
    (masks_of c.args.q.now.places c.args.indexes.now) c.args.weights c.sound.ensures.value c.requires.tables
    c.requires.weights (few_of c.args.tables.now c.in_ok-rows.ensures.few) c.requires.narrow
    (are_counted c.args.q.now (tables_in c.args.tables.now) (map rc_value c.args.distincts.now)
    c.in_ok-rows.rows.items c.as_slice.result.now c.in_ok-fixed.fixed.items c.in_ok-matching.matching.items
    c.in_ok-edges.edges.items c.in_ok-fans.fans.items c.requires.distincts c.as_slice.ensures.value
    c.in_ok-rows.ensures.value c.in_ok-fixed.ensures c.in_ok-matching.ensures c.in_ok-edges.ensures
    c.in_ok-fans.ensures))

pub returns-clause-value : goal.returns-clause-value
returns-clause-value c =
    c.in_ok-stats.ensures ∙ rw (
      c.as_slice-2.ensures.value,
      c.as_slice-3.ensures.value,
      c.as_slice-4.ensures.value,
      c.as_slice-5.ensures.value,
      c.as_slice-6.ensures.value,
      c.indexed.ensures,
    )
    (stats_are c.args.q.now (tables_in c.args.tables.now) c.in_ok-rows.rows.items c.in_ok-fixed.fixed.items
    c.in_ok-matching.matching.items c.in_ok-edges.edges.items c.in_ok-fans.fans.items
    (masks_of c.args.q.now.places c.args.indexes.now) c.args.weights c.sound.ensures.value c.requires.tables
    c.requires.weights (few_of c.args.tables.now c.in_ok-rows.ensures.few) c.requires.narrow
    (are_counted c.args.q.now (tables_in c.args.tables.now) (map rc_value c.args.distincts.now)
    c.in_ok-rows.rows.items c.as_slice.result.now c.in_ok-fixed.fixed.items c.in_ok-matching.matching.items
    c.in_ok-edges.edges.items c.in_ok-fans.fans.items c.requires.distincts c.as_slice.ensures.value
    c.in_ok-rows.ensures.value c.in_ok-fixed.ensures c.in_ok-matching.ensures c.in_ok-edges.ensures
    c.in_ok-fans.ensures))

pub returns-clause-sound : goal.returns-clause-sound
returns-clause-sound c =
    rw (
      c.in_ok-stats.ensures,
      c.as_slice-2.ensures.value,
      c.as_slice-3.ensures.value,
      c.as_slice-4.ensures.value,
      c.as_slice-5.ensures.value,
      c.as_slice-6.ensures.value,
      c.indexed.ensures,
    )
    (stats_sound c.args.q.now (tables_in c.args.tables.now) c.in_ok-rows.rows.items c.in_ok-fixed.fixed.items
    c.in_ok-matching.matching.items c.in_ok-edges.edges.items c.in_ok-fans.fans.items
    (masks_of c.args.q.now.places c.args.indexes.now) c.args.weights c.sound.ensures.value c.requires.tables
    c.requires.weights (few_of c.args.tables.now c.in_ok-rows.ensures.few) c.requires.narrow
    (are_counted c.args.q.now (tables_in c.args.tables.now) (map rc_value c.args.distincts.now)
    c.in_ok-rows.rows.items c.as_slice.result.now c.in_ok-fixed.fixed.items c.in_ok-matching.matching.items
    c.in_ok-edges.edges.items c.in_ok-fans.fans.items c.requires.distincts c.as_slice.ensures.value
    c.in_ok-rows.ensures.value c.in_ok-fixed.ensures c.in_ok-matching.ensures c.in_ok-edges.ensures
    c.in_ok-fans.ensures))
