use Rattle.tower_buffer.proofs.buffer.mail_core.MailCore.drop.Goals as goal

pub invariant_of-self-inside : goal.invariant_of-self-inside
invariant_of-self-inside g c =
    let messages = c.self.inside.mail.messages in
    record { differ = messages.differ; linked = messages.linked; sent = messages.sent }
