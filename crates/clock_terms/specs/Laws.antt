-- Laws of the terms of a model.
use Rattle.flat_model.specs.declared.model.FlatModel.{FlatModel}
use Rattle.clock_terms.specs.declared.data.Terms.{Terms}
use Rattle.clock_terms.specs.Said.{AreTermsOf, SayTheSame}

-- all terms of a model say the same of clocks
abbrev pub TermsOnceLaw : Type 0
TermsOnceLaw = (model : FlatModel) (one other : Terms) → AreTermsOf model one → AreTermsOf model other → SayTheSame one other
