-- One more edge is made ready.
use Rattle.std.proofs.Common.{ℕ, ◌≡◌, ◌<◌, ◌+◌, ◌++◌, ◌&&◌, Bool, true, false, List, [], ◌∷◌, length, take, get_or, cond, ap}
use Rattle.std.proofs.Common.{sym, ◌∙◌, append-nil}
use Rattle.std.specs.Prelude.{filter}
use Rattle.std.proofs.Math.Bool.{and_assoc, and-true}
use Rattle.std.proofs.lemmas.List.Elements.{filter_more}
use Rattle.row_values.specs.declared.statement.Edge.{Edge}
use Rattle.statement_meaning.specs.Combinations.{World, edge_holds, edges_hold}
use Rattle.plan_operators.specs.Edges.{all_meet, is_met}
use Rattle.plan_operators.specs.declared.edges.ReadyEdge.{ReadyEdge}

all_meet-push : (edges : List ReadyEdge) (edge : ReadyEdge) (c : List ℕ)
    → all_meet (edges ++ edge ∷ []) c ≡ (all_meet edges c && is_met edge c)
all_meet-push [] edge c = and-true (is_met edge c)
all_meet-push (one ∷ edges) edge c =
    ap (λ (b : Bool). is_met one c && b) (all_meet-push edges edge c)
    ∙ sym (and_assoc (is_met one c) (all_meet edges c) (is_met edge c))

edges_hold-push : (world : World) (edges : List Edge) (edge : Edge) (c : List ℕ)
    → edges_hold world (edges ++ edge ∷ []) c ≡ (edges_hold world edges c && edge_holds world edge c)
edges_hold-push world [] edge c = and-true (edge_holds world edge c)
edges_hold-push world (one ∷ edges) edge c =
    ap (λ (b : Bool). edge_holds world one c && b) (edges_hold-push world edges edge c)
    ∙ sym (and_assoc (edge_holds world one c) (edges_hold world edges c) (edge_holds world edge c))

-- the edges of the first so many that pass a test are ready
abbrev pub AreReady : World → (Edge → Bool) → List Edge → ℕ → List ReadyEdge → Type 0
AreReady world p edges count ready = (c : List ℕ) → all_meet ready c ≡ edges_hold world (filter p (take count edges)) c

pub edge_taken : (world : World) (p : Edge → Bool) (edges given : List Edge) (i : ℕ) (d : Edge) (ready : List ReadyEdge)
    (one : ReadyEdge)
    → given ≡ edges → i < length given → p (get_or given i d) ≡ true
    → ((c : List ℕ) → is_met one c ≡ edge_holds world (get_or given i d) c)
    → AreReady world p edges i ready → AreReady world p edges (i + 1) (ready ++ one ∷ [])
edge_taken world p edges given i d ready one all there e same before c =
    let more : filter p (take (i + 1) given) ≡ filter p (take i given) ++ get_or given i d ∷ [] =
    filter_more p given i d there
    ∙ ap (λ (b : Bool). filter p (take i given) ++ cond b (get_or given i d ∷ []) []) e in
    all_meet-push ready one c
    ∙ (ap (λ (b : Bool). b && is_met one c) (before c
    ∙ ap (λ (es : List Edge). edges_hold world (filter p (take i es)) c) (sym all))
    ∙ (ap (λ (b : Bool). edges_hold world (filter p (take i given)) c && b) (same c)
    ∙ (sym (ap (λ (es : List Edge). edges_hold world es c) more
    ∙ edges_hold-push world (filter p (take i given)) (get_or given i d) c)
    ∙ ap (λ (es : List Edge). edges_hold world (filter p (take (i + 1) es)) c) all)))

pub edge_passed : (world : World) (p : Edge → Bool) (edges given : List Edge) (i : ℕ) (d : Edge)
    (ready : List ReadyEdge)
    → given ≡ edges → i < length given → p (get_or given i d) ≡ false
    → AreReady world p edges i ready → AreReady world p edges (i + 1) ready
edge_passed world p edges given i d ready all there e before c =
    let more : filter p (take (i + 1) given) ≡ filter p (take i given) =
    filter_more p given i d there
    ∙ (ap (λ (b : Bool). filter p (take i given) ++ cond b (get_or given i d ∷ []) []) e
    ∙ append-nil (filter p (take i given))) in
    before c
    ∙ (ap (λ (es : List Edge). edges_hold world (filter p (take i es)) c) (sym all)
    ∙ (ap (λ (es : List Edge). edges_hold world es c) (sym more)
    ∙ ap (λ (es : List Edge). edges_hold world (filter p (take (i + 1) es)) c) all))
