-- Every valid plan of a statement with sound statistics costs at least 1 and less than 2 ^ 124.
use Rattle.std.proofs.Common.{ℕ, ◌≡◌, ◌≤◌, ◌<◌, ◌+◌, ◌*◌, ◌^◌, Bool, true, false, List, Option, Some, None, map, length}
use Rattle.std.proofs.Common.{get_or, slice_get, slice_index, sym, ◌∙◌, subst, arith, mul-le-mul, mul-le-mul_left}
use Rattle.std.proofs.Common.{mul_assoc, mul_left_comm, mul-add, le_trans, lt_of_lt_of_le}
use Rattle.std.specs.Int.{div_ceil}
use Rattle.std.specs.Option.{option_map_or}
use Rattle.std.proofs.Math.Nat.{pow-le-pow_right}
use Rattle.row_values.specs.Statements.{Statement, IsSoundQuery}
use Rattle.row_values.specs.declared.statement.Edge.{Edge}
use Rattle.plan_trees.specs.declared.plans.Access.{Access}
use Rattle.plan_trees.specs.declared.plans.Access.TheVariants.{Seq, Range, Full}
use Rattle.plan_trees.specs.declared.plans.StepKind.{StepKind}
use Rattle.plan_trees.specs.declared.plans.StepKind.TheVariants.{Loop, Probe}
use Rattle.plan_trees.specs.PlaceSets.{has, one}
use Rattle.plan_trees.specs.PlanSpace.{IsValidAccess, IsValidStep, IsValidPlan, column_in, is_sorted_access}
use Rattle.plan_trees.specs.PlanSpace.{is_sorted_plan}
use Rattle.plan_trees.specs.Statistics.{Statistics, IsSoundStats, IsSoundVector, fan_at, selectivity_places}
use Rattle.plan_trees.specs.Trees.{Tree, Base, Join, HashJoin, Sort, TopTree, Rows, SortedGroups, HashGroups, place_of}
use Rattle.plan_trees.specs.Trees.{place_entering, places_of, plan_below}
use Rattle.plan_trees.proofs.PlaceCounts.{place_count, one_more, one_place, both_places, at_most_five}
use Rattle.plan_trees.proofs.SoundParts.{access_in_range, step_in_range}
use Rattle.cost_model.specs.Cardinalities.{card_of, kappa, product_over, selected_product, selected_rows, is_inside}
use Rattle.cost_model.specs.Cardinalities.{distinct_product}
use Rattle.cost_model.specs.Costs.{digits, rows_met, look_up_cost, access_unit, edge_fan, step_cost, join_cost}
use Rattle.cost_model.specs.Costs.{sort_cost, plan_cost, top_cost}
use Rattle.cost_model.specs.Laws.{IsCost, CostsFit}
use Rattle.plan_trees.specs.declared.scale.TheConstants.{COST_SCALE}
use Rattle.cost_model.proofs.Ceilings.{ceiling_times, ceiling_more, digits_small, digits_few}
use Rattle.cost_model.proofs.Products.{Ones, beside, full_part, in_le, marked_one, one_of_all, part_of_all, part_widths}
use Rattle.cost_model.proofs.Products.{selected_le, selected_one, selected_powers, powers_widths, rows_widths}
use Rattle.cost_model.proofs.Products.{whole_part, widths, widths_ones}
use Rattle.cost_model.proofs.Sets.{set_of_plan}
use Rattle.plan_trees.proofs.ValidPlans.{entering_new}
use Rattle.cost_model.proofs.SoundNumbers.{AreSized, are_sized}

-- Cardinalities.

-- the widths of the places, and their product over a set
spans : Statement → Statistics → List ℕ
spans q s = widths (selectivity_places q.preds) 0 s.rows

span : Statement → Statistics → ℕ → ℕ
unfolding spans
span q s set = product_over set 0 (spans q s)

span_ones : (q : Statement) (s : Statistics) (vector : List ℕ) → AreSized q s vector → Ones (spans q s)
unfolding spans
span_ones q s vector k = widths_ones (selectivity_places q.preds) 0 s.rows (full_part s.fixed s.rows k.part)

card_le : (q : Statement) (s : Statistics) (vector : List ℕ) (set : ℕ) → AreSized q s vector
    → card_of q s vector set ≤ 1099511627777 * span q s set
unfolding card_of kappa span spans
card_le q s vector set k =
    let on = selectivity_places q.preds in
    let a : ℕ = 1099511627776 * product_over set 0 s.fixed in
    let d = selected_product q set (selected_rows q s) in
    let p = selected_product q set vector in
    let e = distinct_product q s set in
    let p1 : 1 ≤ p = selected_one set s.rows on vector k.numbers in
    let pd : p ≤ d = selected_le set s.rows on vector k.numbers in
    let more : div_ceil a (d * e) ≤ div_ceil a d =
    ceiling_more a d e (omega arith) (marked_one (map (is_inside set) q.edges) s.distinct k.distinct) in
    let times : div_ceil a d * d ≤ a + d = ceiling_times a d (omega arith) in
    let both : div_ceil a (d * e) * p ≤ div_ceil a d * d = mul-le-mul more pd in
    let f : product_over set 0 s.fixed ≤ product_over set 0 (widths on 0 s.rows) =
    in_le set 0 _ _ (part_widths on 0 s.fixed s.rows k.part) in
    let g : d ≤ product_over set 0 (widths on 0 s.rows) =
    subst (λ n. n ≤ product_over set 0 (widths on 0 s.rows)) (sym (selected_powers set s.rows on vector k.numbers))
    (in_le set 0 _ _ (powers_widths on 0 s.rows (full_part s.fixed s.rows k.part))) in
    omega arith

-- above every cardinality: one more than the scale, times the most that a statement may span
most : ℕ
most = 1099511627777 * 9223372036854775808

card_most : (q : Statement) (s : Statistics) (vector : List ℕ) (set : ℕ) → AreSized q s vector
    → card_of q s vector set ≤ most
unfolding most span spans
card_most q s vector set k =
    let h = card_le q s vector set k in
    let m = part_of_all set 0 (widths (selectivity_places q.preds) 0 s.rows) (span_ones q s vector k) in
    let n = k.narrow in
    omega arith

-- a cardinality times the rows of a place that isn't in the set
card_beside : (q : Statement) (s : Statistics) (vector : List ℕ) (set place : ℕ) → AreSized q s vector → has set place
    ≡ false → card_of q s vector set * slice_index s.rows place ≤ most
unfolding most span spans
card_beside q s vector set place k out =
    let ws = widths (selectivity_places q.preds) 0 s.rows in
    let h : card_of q s vector set * slice_index s.rows place ≤ 1099511627777 * product_over set 0 ws
    * get_or ws place 1 =
    mul-le-mul (card_le q s vector set k) (rows_widths (selectivity_places q.preds) 0 place s.rows
    (full_part s.fixed s.rows k.part)) in
    let m = beside set 0 place ws (span_ones q s vector k) (subst (λ n. has set n ≡ false) (omega arith) out) in
    let n = k.narrow in
    let e = mul_assoc 1099511627777 (product_over set 0 ws) (get_or ws place 1) in
    omega arith

rows_few : (q : Statement) (s : Statistics) (vector : List ℕ) (place : ℕ) → AreSized q s vector
    → slice_index s.rows place ≤ 2 ^ 63
unfolding spans
rows_few q s vector place k =
    le_trans (rows_widths (selectivity_places q.preds) 0 place s.rows (full_part s.fixed s.rows k.part))
    (le_trans (one_of_all (widths (selectivity_places q.preds) 0 s.rows) place (span_ones q s vector k)) k.narrow)

-- Accesses.

-- two weighted numbers of at most n
two : (a b x y n : ℕ) → a ≤ 1000 → b ≤ 1000 → x ≤ n → y ≤ n → a * x + b * y ≤ 2000 * n
two a b x y n p q h k =
    let i : a * x ≤ 1000 * n = mul-le-mul p h in
    let j : b * y ≤ 1000 * n = mul-le-mul q k in
    omega arith

weighed : (a x n : ℕ) → a ≤ 1000 → x ≤ n → a * x ≤ 1000 * n
weighed a x n p h = mul-le-mul p h

pub some_times : (a x : ℕ) → 1 ≤ a → 1 ≤ x → 1 ≤ a * x
some_times a x p h = mul-le-mul {n₁ = 1} {m₁ = 1} p h

look_up_le : (q : Statement) (s : Statistics) (vector : List ℕ) (place found : ℕ) → AreSized q s vector
    → found ≤ slice_index s.rows place → look_up_cost s place found ≤ 2000 * slice_index s.rows place
look_up_le q s vector place found k h =
    two _ _ _ _ _ k.weights.probe.high k.weights.fetch.high (digits_small (slice_index s.rows place)) h

look_up_some : (q : Statement) (s : Statistics) (vector : List ℕ) (place found : ℕ) → AreSized q s vector → 1 ≤ found
    → 1 ≤ look_up_cost s place found
look_up_some q s vector place found k h = let m = some_times s.weights.fetch found k.weights.fetch.low h in omega arith

access_le : (q : Statement) (s : Statistics) (vector : List ℕ) (access : Access) → AreSized q s vector
    → IsValidAccess q s.indexed access → access_unit q s vector access ≤ 2000 * slice_index s.rows (place_of access)
access_le q s vector (Seq t) k h = let m =
    weighed s.weights.row (slice_index s.rows t) (slice_index s.rows t) k.weights.row.high (omega arith) in omega arith
access_le q s vector (Range t c j) k h = look_up_le q s vector t (rows_met q s vector j) k (k.found t c j h.2).high
access_le q s vector (Full t c) k h = look_up_le q s vector t (slice_index s.rows t) k (omega arith)

access_some : (q : Statement) (s : Statistics) (vector : List ℕ) (access : Access) → AreSized q s vector
    → IsValidAccess q s.indexed access → 1 ≤ access_unit q s vector access
access_some q s vector (Seq t) k h = some_times s.weights.row (slice_index s.rows t) k.weights.row.low (k.rows t h)
access_some q s vector (Range t c j) k h = look_up_some q s vector t (rows_met q s vector j) k (k.found t c j h.2).low
access_some q s vector (Full t c) k h =
    look_up_some q s vector t (slice_index s.rows t) k (k.rows t (access_in_range q s.indexed (Full t c) h))

base_le : (q : Statement) (s : Statistics) (vector : List ℕ) (access : Access) → AreSized q s vector
    → IsValidAccess q s.indexed access → COST_SCALE * access_unit q s vector access ≤ 2000 * most
unfolding most
base_le q s vector access k h = let m = access_le q s vector access k h in let n =
    rows_few q s vector (place_of access) k in omega arith

-- Steps and hash joins.

scan_le : (c u n k : ℕ) → u ≤ 2000 * n → c * n ≤ k → c * u ≤ 2000 * k
scan_le c u n k h m =
    let i : c * u ≤ c * (2000 * n) = mul-le-mul_left c h in
    let e = mul_left_comm c 2000 n in
    omega arith

fan_le_by : (q : Statement) (s : Statistics) (vector : List ℕ) (place : ℕ) (o : Option Edge) → AreSized q s vector
    → place < length q.places → option_map_or (λ e. fan_at s place (column_in place e)) o 0 ≤ slice_index s.rows place
fan_le_by q s vector place None k there = omega arith
fan_le_by q s vector place (Some e) k there = k.fan place (column_in place e) there

step_le : (q : Statement) (s : Statistics) (vector : List ℕ) (set : ℕ) (step : StepKind) → AreSized q s vector
    → IsValidStep q s.indexed set step → step_cost q s vector set step ≤ 5000 * most
step_le q s vector set (Loop access) k h =
    let m = scan_le _ _ _ most (access_le q s vector access k h.0) (card_beside q s vector set (place_of access) k h.1)
    in
    let n = weighed s.weights.out _ most k.weights.out.high (card_most q s vector (set + one (place_of access)) k) in
    omega arith
step_le q s vector set (Probe t e) k h =
    let m = scan_le _ _ _ most (look_up_le q s vector t (edge_fan q s t e) k
    (fan_le_by q s vector t (slice_get q.edges e) k h.0)) (card_beside q s vector set t k h.1) in
    let n = weighed s.weights.out _ most k.weights.out.high (card_most q s vector (set + one t) k) in
    omega arith

join_le : (q : Statement) (s : Statistics) (vector : List ℕ) (left right : ℕ) → AreSized q s vector
    → join_cost q s vector left right ≤ 3000 * most
join_le q s vector left right k =
    let x = card_most q s vector left k in
    let y = card_most q s vector right k in
    let i : s.weights.hash * (card_of q s vector left + card_of q s vector right) ≤ 1000 * (most + most) =
    mul-le-mul k.weights.hash.high (omega arith) in
    let n = weighed s.weights.out _ most k.weights.out.high (card_most q s vector (left + right) k) in
    omega arith

sort_le : (q : Statement) (s : Statistics) (vector : List ℕ) (set : ℕ) → AreSized q s vector
    → sort_cost q s vector set ≤ 64000 * most
sort_le q s vector set k =
    let i : s.weights.sort * digits (product_over set 0 s.rows) ≤ 1000 * 64 =
    mul-le-mul k.weights.sort.high (digits_few _) in
    mul-le-mul i (card_most q s vector set k)

-- Plans: what four sorts may cost for each place, less one sort, and less another where the order isn't there yet.

below_32 : (count set : ℕ) → count ≤ 5 → set < 2 ^ count → set < 32
below_32 count set h k = lt_of_lt_of_le k (pow-le-pow_right (omega arith) h)

left : Bool → ℕ
left true = 0
left false = 64000 * most

left_le : (b : Bool) → left b ≤ 64000 * most
unfolding left
left_le true = omega arith
left_le false = omega arith

one_place_more : (k x : ℕ) → 256000 * k * (x + 1) ≡ 256000 * k * x + 256000 * k
one_place_more k x = mul-add (256000 * k) x 1 ∙ omega arith

bound_plan : (q : Statement) (s : Statistics) (vector : List ℕ) (plan : Tree) → AreSized q s vector
    → IsValidPlan q s.indexed plan
    → plan_cost q s vector plan + left (is_sorted_plan q plan) + 64000 * most ≤ 256000 * most * place_count
    (places_of plan)
unfolding left
bound_plan q s vector (Base access) k h =
    let m = base_le q s vector access k h in
    let there = access_in_range q s.indexed access h in
    let few = k.few in
    let x = left_le (is_sorted_access q access) in
    rw (one_place (place_of access) (omega arith)) (omega arith)
bound_plan q s vector (Join outer step) k h =
    let m = bound_plan q s vector outer k h.0 in
    let n = step_le q s vector (places_of outer) step k h.1 in
    let there = step_in_range q s.indexed (places_of outer) step h.1 in
    let few = k.few in
    let e = one_more (places_of outer) (place_entering step) (below_32 (length q.places) (places_of outer) k.few
    (set_of_plan q s.indexed outer h.0).there) (omega arith) (entering_new q s.indexed (places_of outer) step h.1)
    in
    let f = one_place_more most (place_count (places_of outer)) in
    rw e (omega arith)
bound_plan q s vector (HashJoin outer inner edge) k h =
    let m = bound_plan q s vector outer k h.0 in
    let n = bound_plan q s vector inner k h.1 in
    let j = join_le q s vector (places_of outer) (places_of inner) k in
    let small = below_32 (length q.places) (places_of outer) k.few (set_of_plan q s.indexed outer h.0).there in
    let few = below_32 (length q.places) (places_of inner) k.few (set_of_plan q s.indexed inner h.1).there in
    let e = both_places (places_of outer) (places_of inner) small few h.2.0 in
    let f = mul-add (256000 * most) (place_count (places_of outer)) (place_count (places_of inner)) in
    rw e (omega arith)
bound_plan q s vector (Sort outer) k h =
    let m : plan_cost q s vector outer + left false + 64000 * most ≤ 256000 * most * place_count (places_of outer) =
    subst (λ b. plan_cost q s vector outer + left b + 64000 * most ≤ 256000 * most * place_count (places_of outer)) h.3
    (bound_plan q s vector outer k h.0) in
    let n = sort_le q s vector (places_of outer) k in
    let wants : is_sorted_plan q (Sort outer) ≡ true = h.1 in
    rw wants (omega arith)

plan_few : (q : Statement) (s : Statistics) (vector : List ℕ) (plan : Tree) → AreSized q s vector
    → IsValidPlan q s.indexed plan → plan_cost q s vector plan ≤ 1280000 * most
plan_few q s vector plan k h =
    let b = bound_plan q s vector plan k h in
    let five : 256000 * most * place_count (places_of plan) ≤ 256000 * most * 5 =
    mul-le-mul_left (256000 * most) (at_most_five (places_of plan)) in
    omega arith

plan_below_limit : (q : Statement) (s : Statistics) (vector : List ℕ) (plan : Tree) → AreSized q s vector
    → IsValidPlan q s.indexed plan → plan_cost q s vector plan < 2 ^ 124
unfolding most
plan_below_limit q s vector plan k h = let m = plan_few q s vector plan k h in omega arith

plan_some : (q : Statement) (s : Statistics) (vector : List ℕ) (plan : Tree) → AreSized q s vector
    → IsValidPlan q s.indexed plan → 1 ≤ plan_cost q s vector plan
plan_some q s vector (Base access) k h = some_times COST_SCALE _ (omega arith) (access_some q s vector access k h)
plan_some q s vector (Join outer step) k h = let m = plan_some q s vector outer k h.0 in omega arith
plan_some q s vector (HashJoin outer inner edge) k h = let m = plan_some q s vector outer k h.0 in omega arith
plan_some q s vector (Sort outer) k h = let m = plan_some q s vector outer k h.0 in omega arith

-- Tops.

grouped_below : (q : Statement) (s : Statistics) (vector : List ℕ) (plan : Tree) (weight : ℕ) → AreSized q s vector
    → IsValidPlan q s.indexed plan → weight ≤ 1000
    → plan_cost q s vector plan + weight * card_of q s vector (places_of plan) < 2 ^ 124
unfolding most
grouped_below q s vector plan weight k h light =
    let m = plan_few q s vector plan k h in
    let n = weighed weight _ most light (card_most q s vector (places_of plan) k) in
    omega arith

top_below_limit : (q : Statement) (s : Statistics) (vector : List ℕ) (top : TopTree) → AreSized q s vector
    → IsValidPlan q s.indexed (plan_below top) → top_cost q s vector top < 2 ^ 124
top_below_limit q s vector (Rows plan) k h = plan_below_limit q s vector plan k h
top_below_limit q s vector (SortedGroups plan) k h = grouped_below q s vector plan s.weights.row k h k.weights.row.high
top_below_limit q s vector (HashGroups plan) k h = grouped_below q s vector plan s.weights.hash k h k.weights.hash.high

top_some : (q : Statement) (s : Statistics) (vector : List ℕ) (top : TopTree) → AreSized q s vector
    → IsValidPlan q s.indexed (plan_below top) → 1 ≤ top_cost q s vector top
top_some q s vector (Rows plan) k h = plan_some q s vector plan k h
top_some q s vector (SortedGroups plan) k h = let m = plan_some q s vector plan k h in omega arith
top_some q s vector (HashGroups plan) k h = let m = plan_some q s vector plan k h in omega arith

-- All of it.

pub costs_fit : (q : Statement) (s : Statistics) (vector : List ℕ) → IsSoundQuery q → IsSoundStats q s
    → IsSoundVector q s vector → CostsFit q s vector
costs_fit q s vector h stats v =
    let k = are_sized q s vector h stats v in
    record {
      tops = λ top valid. record {
        low = top_some q s vector top k valid.plan;
        high =
            top_below_limit q s vector top k valid.plan;
      };
      plans = λ plan valid. record {
        low = plan_some q s vector plan k valid;
        high =
            plan_below_limit q s vector plan k valid;
      };
      cells = λ sorted set cost cell. subst (λ n. IsCost n) cell.costs (record {
        low =
            plan_some q s vector cell.plan k cell.fits.valid;
        high =
            plan_below_limit q s vector cell.plan k cell.fits.valid;
      });
    }

-- For code that computes cardinalities and costs part by part.

pub card_below_limit : (q : Statement) (s : Statistics) (vector : List ℕ) (set : ℕ) → AreSized q s vector
    → card_of q s vector set < 2 ^ 124
unfolding most
card_below_limit q s vector set k = let m = card_most q s vector set k in omega arith

pub fixed_few : (q : Statement) (s : Statistics) (vector : List ℕ) (set : ℕ) → AreSized q s vector
    → product_over set 0 s.fixed ≤ 2 ^ 63
unfolding spans
fixed_few q s vector set k =
    let on = selectivity_places q.preds in
    let f : product_over set 0 s.fixed ≤ product_over set 0 (widths on 0 s.rows) =
    in_le set 0 _ _ (part_widths on 0 s.fixed s.rows k.part) in
    let m = part_of_all set 0 (widths on 0 s.rows) (span_ones q s vector k) in
    let n = k.narrow in
    omega arith

pub selected_few : (q : Statement) (s : Statistics) (vector : List ℕ) (set : ℕ) → AreSized q s vector
    → selected_product q set vector ≤ 2 ^ 63
unfolding spans
selected_few q s vector set k =
    let on = selectivity_places q.preds in
    let pd : selected_product q set vector ≤ selected_product q set (selected_rows q s) =
    selected_le set s.rows on vector k.numbers in
    let g : selected_product q set (selected_rows q s) ≤ product_over set 0 (widths on 0 s.rows) =
    subst (λ n. n ≤ product_over set 0 (widths on 0 s.rows)) (sym (selected_powers set s.rows on vector k.numbers))
    (in_le set 0 _ _ (powers_widths on 0 s.rows (full_part s.fixed s.rows k.part))) in
    let m = part_of_all set 0 (widths on 0 s.rows) (span_ones q s vector k) in
    let n = k.narrow in
    omega arith

-- as `fixed_few`, of all rows
pub rows_product_few : (q : Statement) (s : Statistics) (vector : List ℕ) (set : ℕ) → AreSized q s vector
    → product_over set 0 s.rows ≤ 2 ^ 63
unfolding spans
rows_product_few q s vector set k =
    let on = selectivity_places q.preds in
    let f : product_over set 0 s.rows ≤ product_over set 0 (widths on 0 s.rows) =
    in_le set 0 _ _ (part_widths on 0 s.rows s.rows (whole_part s.rows (full_part s.fixed s.rows k.part))) in
    let m = part_of_all set 0 (widths on 0 s.rows) (span_ones q s vector k) in
    let n = k.narrow in
    omega arith

pub step_below_limit : (q : Statement) (s : Statistics) (vector : List ℕ) (set : ℕ) (step : StepKind)
    → AreSized q s vector → IsValidStep q s.indexed set step → step_cost q s vector set step < 2 ^ 124
unfolding most
step_below_limit q s vector set step k h = let m = step_le q s vector set step k h in omega arith

pub join_below_limit : (q : Statement) (s : Statistics) (vector : List ℕ) (left right : ℕ) → AreSized q s vector
    → join_cost q s vector left right < 2 ^ 124
unfolding most
join_below_limit q s vector left right k = let m = join_le q s vector left right k in omega arith

pub sort_below_limit : (q : Statement) (s : Statistics) (vector : List ℕ) (set : ℕ) → AreSized q s vector
    → sort_cost q s vector set < 2 ^ 124
unfolding most
sort_below_limit q s vector set k = let m = sort_le q s vector set k in omega arith

pub out_below_limit : (q : Statement) (s : Statistics) (vector : List ℕ) (set : ℕ) → AreSized q s vector
    → s.weights.out * card_of q s vector set < 2 ^ 124
unfolding most
out_below_limit q s vector set k = let m = weighed s.weights.out _ most k.weights.out.high (card_most q s vector set k)
    in omega arith

pub weighed_below_limit : (q : Statement) (s : Statistics) (vector : List ℕ) (set weight : ℕ) → AreSized q s vector
    → weight ≤ 1000 → weight * card_of q s vector set < 2 ^ 124
unfolding most
weighed_below_limit q s vector set weight k light = let m = weighed weight _ most light (card_most q s vector set k)
    in omega arith
