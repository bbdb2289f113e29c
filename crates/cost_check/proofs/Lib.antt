mod Agreeing
mod Costing
mod Putting
mod Trying
mod Walking
