-- Offers as code has them.
use Rattle.wdl_check_flow.specs.Targets.{Offer}
use Rattle.wdl_check_doc.specs.declared.offer.Offered.{Offered}

abbrev pub offer_of : Offered → Offer
offer_of o = record { name = o.name.now; target = o.target; inputs = o.inputs; outputs = o.outputs }
