-- What an event is among sends and deliveries, and what its links then say: to its counterpart, and to the next delivery.
use Rattle.std.specs.Prelude.{Option, Some, None}
use Rattle.hlc_stamp.specs.declared.id.EventId.{EventId}
use Rattle.hlc_execution.specs.declared.role.Role.{Role}
use Rattle.hlc_execution.specs.declared.role.Role.TheVariants.{Alone, Delivery, Send}

-- the send of a delivery, by the counterpart
abbrev pub send_by : Role → EventId → Option EventId
send_by Alone counterpart = None
send_by Send counterpart = None
send_by Delivery counterpart = Some counterpart

-- the last delivery of a send, by the counterpart
abbrev pub last_delivery_by : Role → EventId → Option EventId
last_delivery_by Alone counterpart = None
last_delivery_by Send counterpart = Some counterpart
last_delivery_by Delivery counterpart = None

-- the first delivery of a send, by the link to the next delivery
abbrev pub first_delivery_by : Role → Option EventId → Option EventId
first_delivery_by Alone next = next
first_delivery_by Send next = next
first_delivery_by Delivery next = None

-- the role of an event that has no deliveries yet, by the send that it delivers
abbrev pub new_role : Option EventId → Role
new_role None = Alone
new_role (Some send) = Delivery

-- the role after one more delivery of the event: what was alone is a send
abbrev pub role_with_last : Role → Role
role_with_last Alone = Send
role_with_last Send = Send
role_with_last Delivery = Delivery

-- its counterpart then: that delivery, unless the event is one itself
abbrev pub counterpart_with_last : Role → EventId → EventId → EventId
counterpart_with_last Alone counterpart delivery = delivery
counterpart_with_last Send counterpart delivery = delivery
counterpart_with_last Delivery counterpart delivery = counterpart

-- its link to the next delivery then: only the first delivery of it sets that
abbrev pub next_with_last : Role → Option EventId → EventId → Option EventId
next_with_last Alone next delivery = Some delivery
next_with_last Send next delivery = next
next_with_last Delivery next delivery = next
