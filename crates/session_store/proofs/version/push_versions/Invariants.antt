use Rattle.std.proofs.Common.{◌≡◌, ◌++◌, take}
use Rattle.session_store.proofs.version.push_versions.Given as goal

abbrev pub invariant-loop-version : goal.invariant-loop-version
invariant-loop-version l = l.versions.items ≡ l.fn.versions.items ++ take l.version-index l.more
