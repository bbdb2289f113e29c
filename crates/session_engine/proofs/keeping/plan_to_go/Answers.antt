use Rattle.std.proofs.Common.{ℕ, ◌≡◌, IfSome, IsTrue, Option, Some, None, sym, ◌∙◌, refl}
use Rattle.anchor_cache.specs.Contents.{has_plan}
use Rattle.session_engine.proofs.OldPlans.{least_there}
use Rattle.session_engine.proofs.keeping.plan_to_go.Goals as goal

each_told : (P : ℕ → Type 0) (found : Option ℕ) → ((number : ℕ) → found ≡ Some number → P number) → IfSome found P
each_told P None h = tt
each_told P (Some number) h = h number refl

pub returns-else-plans-from-clause-there : goal.returns-else-plans-from-clause-there
returns-else-plans-from-clause-there c =
    each_told (λ number. IsTrue (has_plan c.args.cache.now.plans number)) c.victim.result
    (λ number e. least_there c.args.cache.now.plans c.args.cache.now.anchors number (sym c.victim.ensures ∙ e))
