-- What was multiplied so far, times what is left, is the product.
use Rattle.std.proofs.Common.{◌≡◌, ◌*◌, drop}
use Rattle.fraction_math.specs.Product.{product_of}
use Rattle.fraction_math.proofs.exact_products.product.Given as goal

abbrev pub invariant-loop-x : goal.invariant-loop-x
invariant-loop-x l = l.all * product_of (drop l.x-index l.xs) ≡ product_of l.xs
