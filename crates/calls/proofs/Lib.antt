mod Continuing
mod Beginning
