-- What crates above cite of the crates below this one, which they then needn't list.
pub use Rattle.hub_spec.specs.views.Pages
